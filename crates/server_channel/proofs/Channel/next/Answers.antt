use Rattle.std.proofs.Common.{refl, sym, arith}
use Rattle.message.specs.Views.{chunk_bytes}
use Rattle.server_channel.proofs.Due.{handed, due-over, due-exiting}
use Rattle.server_channel.proofs.Channel.next.Goals as goal

pub returns-then-ready-gt0 : goal.returns-then-ready-gt0
returns-then-ready-gt0 g c = handed c.args.self.now c.send.new.self c.min.result (chunk_bytes c.send.result) (omega arith) (omega arith) c.send.ensures.bytes c.send.ensures.left

pub returns-in_err-status : goal.returns-in_err-status
returns-in_err-status g c = rw c.from_residual.ensures (due-over c.args.self.now (omega arith) (sym c.in_err-status.ensures), refl)

pub returns : goal.returns
returns g c = due-exiting c.args.self.now c.in_ok-status.status (omega arith) (sym c.in_ok-status.ensures)
