-- The bytes between two quotes, one byte on.
use Rattle.std.proofs.Common.{◌≡◌, ℕ, ◌+◌, ◌<◌, ◌≤◌, List, [], ◌++◌, length, get_or, drop, Some, None, Option, sym, refl, ap, ◌∙◌, subst, append_assoc}
use Rattle.std.specs.Option.{option_map, option_to_list}
use Rattle.std.proofs.lemmas.List.{at_drop_more, at_drop_all}
use Rattle.token.specs.declared.quote.Quote.{Quote}
use Rattle.token.specs.declared.quote.Quote.TheVariants.{Body, Escape, High, Low, Closed}
use Rattle.token.specs.Quotes.{Small, step_of, told, finished, unquote_of}

-- bytes that come before others
abbrev pub first : List ℕ → Option (List ℕ) → Option (List ℕ)
first done o = option_map (λ bs. done ++ bs) o

pub first-first : (a b : List ℕ) (o : Option (List ℕ)) → first a (first b o) ≡ first (a ++ b) o
first-first a b None = refl
first-first a b (Some bs) = ap Some (sym (append_assoc a b bs))

pub first-none : (o : Option (List ℕ)) → first [] o ≡ o
first-none None = refl
first-none (Some bs) = refl

pub open-end : (q : Quote) → (q ≡ Closed → ⊥) → finished q ≡ None
open-end Body e = refl
open-end Escape e = refl
open-end High e = refl
open-end (Low h) e = refl
open-end Closed e = absurd (e refl)

-- i bytes of s are read, which tell those of done
pub record Told (s done : List ℕ) (q : Quote) (i : ℕ) : Type 0 where
  pub small : Small q
  pub says : first done (unquote_of q (drop i s)) ≡ unquote_of Body s

module _ (s done : List ℕ) (q : Quote) (i : ℕ) (so : Told s done q i) where
  pub told-bad : i < length s → step_of q (get_or s i 0) ≡ None → unquote_of Body s ≡ None
  unfolding unquote_of
  told-bad h e = sym so.says ∙ ap (first done) (at_drop_more (unquote_of q) s i 0 h ∙ ap (λ o. told o (λ p. unquote_of p (drop (i + 1) s))) e)

  pub told_more : (done' : List ℕ) (p p' : Quote) (o : Option ℕ) → i < length s → step_of q (get_or s i 0) ≡ Some (p, o) → Small p → p' ≡ p → done' ≡ done ++ option_to_list o → Told s done' p' (i + 1)
  unfolding unquote_of
  told_more done' p p' o h e small is d = record {
    small = subst Small (sym is) small;
    says =
        (λ j. first (d j) (unquote_of (is j) (drop (i + 1) s)))
        ∙ sym (first-first done (option_to_list o) (unquote_of p (drop (i + 1) s)))
        ∙ sym (ap (first done) (at_drop_more (unquote_of q) s i 0 h ∙ ap (λ o. told o (λ p. unquote_of p (drop (i + 1) s))) e))
        ∙ so.says;
  }

  pub told-all : length s ≤ i → unquote_of Body s ≡ first done (finished q)
  unfolding unquote_of
  told-all h = sym so.says ∙ ap (first done) (at_drop_all (unquote_of q) s i h)
