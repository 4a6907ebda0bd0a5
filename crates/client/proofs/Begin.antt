-- How the client begins.
use Rattle.std.proofs.Common.{◌≡◌, ℕ, ◌<◌, Bool, true, false, List, [], None, sym, refl, ap, subst, arith}
use Rattle.std.proofs.lemmas.Bool.{le-leb}
use Rattle.model.specs.Keyed.{numbers, is_in, above, gather, each}
use Rattle.model.specs.Client.{new_client}
use Rattle.client_channel.specs.Kept.{Kept}
use Rattle.client.specs.Stand.{none, QuietBut, StandsFor, owed_by, busy}
use Rattle.client.proofs.Moves.{view, never}

module _ (us : ℕ → Bool) (h : (n : ℕ) → us n ≡ false) where
  begin-stands : StandsFor (view [] us 0 false true [] None) new_client
  unfolding each numbers is_in above QuietBut
  begin-stands = record { all = []; stand = none; channels = refl; accepted = refl; up = refl; used = h; least = λ n. sym (le-leb 0 n (omega arith)); quiet = λ u i d f n. absurd (let z : i < 0 = f in omega arith); down = λ u. never true refl u }

  pub begins : (ks : List Kept) → ks ≡ [] → StandsFor (view ks us 0 false true [] None) new_client
  begins ks e = subst (λ z. StandsFor (view z us 0 false true [] None) new_client) (sym e) begin-stands

  pub begins-owes : (ks : List Kept) → ks ≡ [] → owed_by (view ks us 0 false true [] None) ≡ []
  unfolding owed_by gather
  begins-owes ks e = ap (λ z. owed_by (view z us 0 false true [] None)) e

pub begins-idle : (ks : List Kept) (us : ℕ → Bool) → ks ≡ [] → busy (view ks us 0 false true [] None) ≡ false
begins-idle ks us e = ap (λ z. busy (view z us 0 false true [] None)) e
