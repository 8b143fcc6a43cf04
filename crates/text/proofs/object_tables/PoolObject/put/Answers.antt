use Rattle.output.proofs.Laws.Texts.{puts-append}
use Rattle.text.specs.Objects.{pool_text}
use Rattle.text.proofs.Laws.Texts.{puts_if}
use Rattle.text.proofs.object_tables.PoolObject.put.Goals as goal

pub returns-then-not-self : goal.returns-then-not-self
unfolding pool_text
returns-then-not-self g c = rw c.if-not-self.true c.put_nothing.ensures

pub returns : goal.returns
unfolding pool_text
returns g c =
    puts_if c.args.self.now.created c.if-not-self.false
    (puts-append (puts-append (puts-append (puts-append c.put_pool_sizes.ensures c.put_text.ensures) c.put_free.ensures) c.put_text-2.ensures) c.put_line.ensures)
