-- What a channel sends next by itself, and what it makes of a reply. Assumes nothing.
use Rattle.std.specs.Prelude.{ℕ, ◌+◌, ◌-◌, min, Bool, true, false, cond, not, ◌&&◌, List, ◌++◌, length, take, drop, Some, None, Ok, Err, Option, Result, ◌==◌, nat_lt}
use Rattle.std.specs.Option.{option_map}
use Rattle.model.specs.Messages as model
use Rattle.model.specs.Messages.{is_some}
use Rattle.message.specs.Views.{request, fault}
use Rattle.message.specs.declared.to_server.Request.{Request}
use Rattle.message.specs.declared.fault.Fault.{Fault}
use Rattle.client_channel.specs.declared.state.Channel.{Channel}
use Rattle.client_channel.specs.Kept.{Bytes, Kept, kept}

-- its input that may go
abbrev pub goes_of : Kept → List ℕ
goes_of k = take k.credit k.waiting

abbrev pub sent_of : ℕ → Kept → Kept
sent_of n k = record k { credit = k.credit - n; waiting = drop n k.waiting }

abbrev pub said_of : Kept → Kept
said_of k = record k { said = true }

pub record Step : Type 0 where
  pub channel : Kept
  pub sends : Option model.Request

abbrev pub step_to : Kept → Option model.Request → Step
step_to k q = record { channel = k; sends = q }

-- how much goes in the next message
abbrev pub part_of : Kept → ℕ
part_of k = min (min k.credit (length k.waiting)) 1024

-- after its input: eof, when all of it went, then close, when the exit is known and all output was taken
abbrev pub end_of : Kept → Step
end_of k =
    cond (k.eof && (length k.waiting == 0 && not k.said))
    (step_to (said_of k) (Some model.Eof))
    (cond (is_some k.exit && length k.unseen == 0) (step_to k (Some model.Close)) (step_to k None))

-- of a channel that runs its input first, in parts of at most 1,024 bytes
abbrev pub next_of : Kept → Step
next_of k = cond k.running (cond (part_of k == 0) (end_of k) (step_to (sent_of (part_of k) k) (Some (model.Input (take (part_of k) k.waiting))))) (step_to k None)

-- what a reply makes of it: a channel that is still held, or none
abbrev pub runs_of : Bool → Kept → Option Kept
runs_of false k = None
runs_of true k = Some (record k { running = true })

abbrev pub got_of : List ℕ → Kept → Kept
got_of bs k = record k { unseen = k.unseen ++ bs }

abbrev pub may_of : ℕ → Kept → Kept
may_of n k = record k { credit = k.credit + n }

abbrev pub exit_of : ℕ → Kept → Kept
exit_of s k = record k { exit = Some s }

abbrev pub asked_of : model.Reply → Kept → Result (Option Kept) model.Fault
asked_of (model.Runs b) k = Ok (runs_of b k)
asked_of (model.Output bs) k = Err model.OutOfTurn
asked_of (model.InputCredit n) k = Err model.OutOfTurn
asked_of (model.Exit s) k = Err model.OutOfTurn

abbrev pub running_of : model.Reply → Kept → Result (Option Kept) model.Fault
running_of (model.Runs b) k = Err model.OutOfTurn
running_of (model.Output bs) k = cond (is_some k.exit) (Err model.OutOfTurn) (cond (nat_lt 8192 (length k.unseen + length bs)) (Err model.BeyondWindow) (Ok (Some (got_of bs k))))
running_of (model.InputCredit n) k = cond (nat_lt 0xffff_ffff_ffff_ffff (k.credit + n)) (Err model.Uncountable) (Ok (Some (may_of n k)))
running_of (model.Exit s) k = cond (is_some k.exit) (Err model.OutOfTurn) (Ok (Some (exit_of s k)))

abbrev pub hear_of : model.Reply → Kept → Result (Option Kept) model.Fault
hear_of m k = cond k.running (running_of m k) (asked_of m k)

-- the code's answer, as the above has it
abbrev pub seen_step : Channel → Option Request → Bytes → Step
seen_step x q b = step_to (kept x b) (option_map request q)

abbrev pub seen_heard : Result (Option Channel) Fault → Bytes → Result (Option Kept) model.Fault
seen_heard (Ok None) b = Ok None
seen_heard (Ok (Some x)) b = Ok (Some (kept x b))
seen_heard (Err f) b = Err (fault f)

-- where the channel does not go on, its bytes are as they were
abbrev pub UnlessStays : Result (Option Channel) Fault → Type 0 → Type 0
UnlessStays (Ok None) P = P
UnlessStays (Ok (Some x)) P = Unit {0}
UnlessStays (Err f) P = P
