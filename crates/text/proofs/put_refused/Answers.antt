use Rattle.std.proofs.Common.{rules}
use Rattle.output.proofs.Laws.Texts.{puts-append}
use Rattle.text.specs.Texts.{refused_text}
use Rattle.text.proofs.put_refused.Goals as goal

pub returns : goal.returns
unfolding refused_text
returns g c = search (rules, puts-append)
