-- When a new connection may come up.
use Rattle.std.proofs.Common.{◌≡◌, ℕ, Bool, true, false, cond, not, ◌&&◌, eqb, List, [], ◌++◌, map, length, sym, refl, ap, ◌∙◌, subst, arith}
use Rattle.std.proofs.lemmas.Bool.{and_left, le-leb, ne_eqb}
use Rattle.model.specs.Keyed.{every, is_in, above, gather}
use Rattle.model.specs.Server.{Server, ServerChannel, is_empty, server}
use Rattle.server_channel.specs.declared.Channel.{Channel}
use Rattle.server_channel.specs.Kept.{settled}
use Rattle.desk.specs.View as seen
use Rattle.desk.specs.View.{View, owed_by, flushed, due_of}
use Rattle.desk.specs.Sight.{Fresh}
use Rattle.server.specs.Stands.{Stand, none, past, held, Used, StandsFor}
use Rattle.server.specs.Calls.{Begins}

module _ {S : Type 0} {up : Bool} {Good : ℕ → Type 0} where
  pub all-forgotten : {lo : ℕ} {xs : List (ServerChannel S)} (ks : List (Channel S)) → Stand up Good lo ks xs → every (λ x. x.forgotten) xs ≡ eqb (length ks) 0
  unfolding every
  all-forgotten ks none = refl
  all-forgotten ks (past h a g st) = λ i. h i && all-forgotten ks st i
  all-forgotten ks (held {x = x} {xs = xs} p e a g st) = and_left x.forgotten (every (λ y. y.forgotten) xs) (ap (λ z. z.forgotten) e) ∙ sym (ne_eqb (length ks) 0 (λ q. omega arith))

none_in : (t : ℕ) → is_in t [] ≡ false
unfolding is_in
none_in t = refl

none_above : (t : ℕ) → above t [] ≡ true
unfolding above
none_above t = refl

none-gathered : (S : Type 0) → gather (due_of {S = S}) [] ≡ []
unfolding gather
none-gathered S = refl

module _ {S E : Type 0} (v : View S) (e : E) where
  -- what a view tells of a model's server
  pub over-same : (s : Server S E) → StandsFor v e s → (not s.up && is_empty s) ≡ (not v.up && eqb (length v.channels) 0)
  over-same s x = subst (λ z. (not z.up && is_empty z) ≡ (not v.up && eqb (length v.channels) 0)) (sym x.same) (go v.up v.channels x.fits.stand)
    where
      go : (up : Bool) (ks : List (Channel S)) → Stand up (Used v.next x.used) 0 (cond up (map settled ks) ks) x.channels → (not up && every (λ y. y.forgotten) x.channels) ≡ (not up && eqb (length ks) 0)
      go true ks st = refl
      go false ks st = all-forgotten ks st

  -- a server of which nothing was used
  pub begins : Fresh v → Begins v e
  begins f = record {
    stands = record {
      channels = [];
      used = [];
      fits = record {
        stand = subst (λ ks. Stand v.up (Used v.next []) 0 ks []) (sym (empty v.up v.channels f.channels)) none;
        uses = record { known = λ t l. f.is_used t ∙ sym (none_in t); free = λ t. none_above t ∙ sym (le-leb v.next t (let z = f.next in omega arith)) };
      };
      same = λ i. server [] [] (sym f.user i) (sym f.tries i) e (sym f.up i);
    };
    owes = λ i. seen.tells (f.told i) ++ owing v.up v.channels f.channels i;
  }
    where
      empty : (b : Bool) (ks : List (Channel S)) → ks ≡ [] → cond b (map settled ks) ks ≡ []
      empty true ks q = ap (map settled) q
      empty false ks q = q

      owing : (b : Bool) (ks : List (Channel S)) → ks ≡ [] → cond b (gather due_of ks) [] ≡ []
      owing true ks q = ap (gather due_of) q ∙ none-gathered S
      owing false ks q = refl
