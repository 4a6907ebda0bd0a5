-- What is done to what a server holds, at a message, in a turn, and at a cut. Assumes nothing.
use Rattle.std.specs.Prelude.{ℕ, suc, Bool, true, false, ◌&&◌, List, [], ◌∷◌, ◌++◌, length, take, drop, Some, None, Option, ◌==◌, nat_le, nat_lt, slice_set, if◌then◌else◌}
use Rattle.model.specs.Messages.{Request, Run, Input, OutputCredit, Eof, Close}
use Rattle.server_channel.specs.declared.Channel.{Channel}
use Rattle.server_channel.specs.Kept.{started}
use Rattle.desk.specs.declared.Notice.{Notice}
use Rattle.desk.specs.declared.Notice.TheVariants.{Logged, Refused, Started, Freed}
use Rattle.desk.specs.View.{View, view}

-- one number more is used
abbrev pub marked : ℕ → (ℕ → Bool) → ℕ → Bool
marked t h n = if n == t then true else h n

abbrev pub freed : ℕ → ℕ → Option Notice
freed t n = if nat_lt 0 n then Some (Freed t n) else None

module _ {S : Type 0} where
  abbrev pub telling : Option Notice → View S → View S
  telling m v = view v.channels v.next v.is_used v.user v.tries v.up m

  abbrev pub holding : List (Channel S) → View S → View S
  holding ks v = view ks v.next v.is_used v.user v.tries v.up None

  abbrev pub cut_down : View S → View S
  cut_down v = view v.channels v.next v.is_used v.user v.tries false None

  -- a login, whose proof is right or not
  abbrev pub login_in : Bool → ℕ → Option ℕ → View S → View S
  login_in right u (Some w) v = telling (Some (Logged false)) v
  login_in right u None v =
      if right then view v.channels v.next v.is_used (Some u) v.tries v.up (Some (Logged true))
      else if nat_lt (suc v.tries) 3 then view v.channels v.next v.is_used None (suc v.tries) v.up (Some (Logged false))
      else view v.channels v.next v.is_used None (suc v.tries) false None

  abbrev pub login_to : Bool → ℕ → View S → View S
  login_to right u v = login_in right u v.user v

  -- a start, by who may or not, of a program in its first state
  abbrev pub is_fresh : ℕ → View S → Bool
  is_fresh t v = nat_le v.next t

  abbrev pub start_at : S → ℕ → View S → View S
  start_at s t v = view (v.channels ++ started t s ∷ []) (suc t) (marked t v.is_used) v.user v.tries v.up (Some (Started t))

  abbrev pub refuse_at : ℕ → View S → View S
  refuse_at t v =
      if is_fresh t v then view v.channels (suc t) (marked t v.is_used) v.user v.tries v.up (Some (Refused t))
      else telling (Some (Refused t)) v

  abbrev pub start_to : Bool → S → ℕ → View S → View S
  start_to may s t v = if is_fresh t v && (may && nat_lt (length v.channels) 16) then start_at s t v else refuse_at t v

  -- a channel takes a message in, or is done with
  abbrev pub took_at : Request → ℕ → Channel S → View S → View S
  took_at (Run n) i k v = holding (slice_set v.channels i k) v
  took_at (Input bs) i k v = holding (slice_set v.channels i k) v
  took_at (OutputCredit n) i k v = holding (slice_set v.channels i k) v
  took_at Eof i k v = holding (slice_set v.channels i k) v
  took_at Close i k v = holding (take i v.channels ++ drop (suc i) v.channels) v

  -- a turn that read so much
  abbrev pub turned_at : ℕ → ℕ → Channel S → ℕ → View S → View S
  turned_at t i k n v = telling (freed t n) (holding (slice_set v.channels i k) v)
