-- A server that owes nothing. Assumes nothing.
use Rattle.std.specs.Prelude.{ℕ, suc, Bool, true, false, not, ◌&&◌, ◌||◌, Some, None, Option, nat_lt}
use Rattle.std.specs.List.{list_all}
use Rattle.server_channel.specs.Kept.{quiet}
use Rattle.desk.specs.declared.Notice.{Notice}
use Rattle.desk.specs.View.{View}

abbrev pub is_silent : Option Notice → Bool
is_silent None = true
is_silent (Some n) = false

abbrev pub silent : {S : Type 0} → View S → Bool
silent v = is_silent v.told && (not v.up || list_all quiet v.channels)

-- a login that is one too many
abbrev pub login_fails_in : {S : Type 0} → Bool → Option ℕ → View S → Bool
login_fails_in right (Some w) v = false
login_fails_in right None v = not right && not (nat_lt (suc v.tries) 3)

abbrev pub login_fails : {S : Type 0} → Bool → View S → Bool
login_fails right v = login_fails_in right v.user v
