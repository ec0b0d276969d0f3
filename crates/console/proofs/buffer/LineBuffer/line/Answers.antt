use Rattle.console.proofs.Cut.{loses_nothing}
use Rattle.console.proofs.buffer.LineBuffer.line.Goals as goal

pub returns-clause-enough : goal.returns-clause-enough
returns-clause-enough c = loses_nothing
