use Rattle.codec.specs.Blocks.{part}
use Rattle.codec.specs.State.{kernel_of}
use Rattle.codec.proofs.records.KernelRecord.read.Goals as goal

pub returns : goal.returns
unfolding kernel_of part
returns c = rw (c.read.ensures, c.read_table.ensures, c.read_table-2.ensures, c.read_table-3.ensures, c.read_table-4.ensures, c.read_table-5.ensures, c.read-2.ensures)
