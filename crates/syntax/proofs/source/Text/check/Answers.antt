use Rattle.std.proofs.Common.{arith}
use Rattle.syntax.proofs.Tokens.{tokens-all}
use Rattle.syntax.proofs.source.Text.check.Goals as goal

pub returns-in-Ok : goal.returns-in-Ok
returns-in-Ok c = record { lexed = record { short = omega arith; all = tokens-all c.args.self.bytes.now c.in-Ok.ensures.first_stray_byte } }
