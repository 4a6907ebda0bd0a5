-- What is done to a channel of the server. Assumes nothing.
use Rattle.std.specs.Prelude.{◌≡◌, ℕ, ◌+◌, ◌-◌, Bool, true, false, not, ◌&&◌, ◌||◌, List, [], ◌∷◌, ◌++◌, length, take, drop, Some, None, Ok, Err, Option, Result, ◌==◌, nat_lt, if◌then◌else◌}
use Rattle.model.specs.Messages as model
use Rattle.model.specs.Server.{outputs, exit_reply}
use Rattle.message.specs.Views.{reply, fault}
use Rattle.message.specs.declared.fault.Fault.{Fault}
use Rattle.message.specs.declared.to_client.Reply.{Reply}
use Rattle.server_channel.specs.declared.Channel.{Channel}
use Rattle.server_channel.specs.declared.Counts.{Counts}
use Rattle.server_channel.specs.declared.Life.{Life}
use Rattle.server_channel.specs.declared.Life.TheVariants.{Running, Ended}

abbrev pub counts_of : (number credit left : ℕ) → (eof said : Bool) → Counts
counts_of t c l e s = record { number = t; credit = c; left = l; eof = e; said = s }

abbrev pub credit_of : ℕ → Counts → Counts
credit_of n c = counts_of c.number n c.left c.eof c.said

abbrev pub left_of : ℕ → Counts → Counts
left_of n c = counts_of c.number c.credit n c.eof c.said

abbrev pub eof_of : Counts → Counts
eof_of c = counts_of c.number c.credit c.left true c.said

abbrev pub said_of : Bool → Counts → Counts
said_of b c = counts_of c.number c.credit c.left c.eof b

module _ {S : Type 0} where
  abbrev pub kept : Counts → Life S → List ℕ → List ℕ → Channel S
  kept c l w u = record { counts = c; life = l; input = w; output = u }

  -- a program that has just started
  abbrev pub started : ℕ → S → Channel S
  started t s = kept (counts_of t 8192 64 false false) (Running s) [] []

  abbrev pub is_running : Life S → Bool
  is_running (Running s) = true
  is_running (Ended n) = false

  abbrev pub exit_of : Life S → Option ℕ
  exit_of (Running s) = None
  exit_of (Ended n) = Some n

  -- what arrives for a channel
  abbrev pub heard : model.Request → Channel S → Result (Channel S) model.Fault
  heard (model.Run c) k = Err model.OutOfTurn
  heard (model.Input bs) k =
      if k.counts.eof then Err model.OutOfTurn
      else if nat_lt 8192 (length k.input + length bs) then Err model.BeyondWindow
      else Ok (kept k.counts k.life (k.input ++ bs) k.output)
  heard (model.OutputCredit n) k =
      if nat_lt 0xffff_ffff_ffff_ffff (k.counts.credit + n) then Err model.Uncountable
      else Ok (kept (credit_of (k.counts.credit + n) k.counts) k.life k.input k.output)
  heard model.Eof k = if k.counts.eof then Err model.OutOfTurn else Ok (kept (eof_of k.counts) k.life k.input k.output)
  heard model.Close k = if k.counts.said then Ok k else Err model.OutOfTurn

  -- the answer to a message, and the channel after it
  abbrev pub Hears : model.Request → Channel S → Result Unit Fault → Channel S → Type 0
  Hears m k (Ok u) l = heard m k ≡ Ok l
  Hears m k (Err f) l = (heard m k ≡ Err (fault f)) × (l ≡ k)

  -- what goes by itself
  abbrev pub goes : Channel S → List ℕ
  goes k = take k.counts.credit k.output

  abbrev pub exit_due : Channel S → Bool
  exit_due k = length (goes k) == length k.output && not k.counts.said

  unfoldable pub due : Channel S → List model.Reply
  due k = outputs (model.parts (length (goes k)) 1024 (goes k)) ++ exit_reply (exit_due k) (exit_of k.life)

  -- the channel once that went
  unfoldable pub settled : Channel S → Channel S
  settled k = kept (said_of (k.counts.said || (exit_due k && not (is_running k.life))) (credit_of (k.counts.credit - length (goes k)) k.counts)) k.life k.input (drop (length (goes k)) k.output)

  -- the first of what goes is handed out
  abbrev pub HandsReply : Channel S → Option Reply → Channel S → Type 0
  HandsReply k None l = (due k ≡ []) × (l ≡ k)
  HandsReply k (Some m) l = (due k ≡ reply m ∷ due l) × (settled k ≡ settled l)

  -- the status of a program that ended, if all output went and the exit did not
  abbrev pub exit_now_in : Channel S → Life S → Option ℕ
  exit_now_in k (Running s) = None
  exit_now_in k (Ended n) = if k.counts.said || nat_lt 0 (length k.output) then None else Some n

  abbrev pub exit_now : Channel S → Option ℕ
  exit_now k = exit_now_in k k.life

  -- nothing goes
  abbrev pub quiet : Channel S → Bool
  quiet k = length (goes k) == 0 && not (model.is_some (exit_now k))
