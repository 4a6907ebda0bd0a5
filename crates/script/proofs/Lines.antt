-- A script, one line on.
use Rattle.std.proofs.Common.{◌≡◌, ℕ, ◌+◌, ◌<◌, ◌≤◌, Bool, false, eqb, Bor, List, [], ◌∷◌, ◌++◌, map, length, get_or, drop, IsErrAnd, Some, None, Ok, Err, Option, Result, Vec, sym, subst, refl, ap, ◌∙◌, append_assoc, append-nil, arith, zero-add}
use Rattle.std.specs.List.{enumerate_from}
use Rattle.std.specs.Option.{option_map, option_to_list}
use Rattle.std.proofs.lemmas.List.{at_drop_more, at_drop_all, map-append, map-id}
use Rattle.std.specs.Fn.{CalledAt}
use Rattle.std.specs.Iterator.Adapters.{enumerate_source, enumerate_count, enumerate_steps}
use Rattle.std.specs.Slice.Iter.{split_rest, split_done, split_callee, split_steps}
use Rattle.std.specs.declared.iter.Enumerate.{Enumerate}
use Rattle.std.specs.declared.slice.Split.{Split}
use Rattle.std.proofs.lemmas.Iterator.{YieldsList}
use Rattle.std.proofs.lemmas.Iterator.Consumers.{YieldsList-at, YieldsList-from_enumerate}
use Rattle.std.proofs.lemmas.Iterator.Splits.{YieldsList-from_slice_split}
use denote.Param.Members.{Mut}
use Rattle.std.proofs.lemmas.List.FromFn.{get_or-enumerate_from, length-enumerate_from}
use Rattle.command.specs.Orders.{Order, order_of}
use Rattle.std.specs.declared.alloc.Global.{Global}
use Rattle.command.specs.declared.kinds.Command.{Command}
use Rattle.script.specs.Answers.{Script, Numbered}
use Rattle.script.specs.declared.reader.Unreadable.{Unreadable}
use Rattle.script.specs.declared.reader.Unreadable.TheVariants.{Line, NoMemory}
use Rattle.token.specs.Words.{words_of}
use Rattle.script.specs.Lines.{line_of, lines_of, then, from_line}

-- commands that come before others
abbrev pub led : List Order → Result (List Order) ℕ → Result (List Order) ℕ
led done (Ok os) = Ok (done ++ os)
led done (Err n) = Err n

led-then : (done : List Order) (n : ℕ) (o : Option Order) (rest : Result (List Order) ℕ) → led done (then n (Some o) rest) ≡ led (done ++ option_to_list o) rest
led-then done n None rest = ap (λ l. led l rest) (sym (append-nil done))
led-then done n (Some o) (Ok os) = ap Ok (sym (append_assoc done (o ∷ []) os))
led-then done n (Some o) (Err k) = refl

-- the first n lines say the commands done
abbrev pub Reading : List (List ℕ) → List Order → ℕ → Type 0
Reading ls done n = led done (from_line n (drop n ls)) ≡ from_line 0 ls

module _ (ls : List (List ℕ)) (done : List Order) (n : ℕ) (so : Reading ls done n) where
  one_on : (l : List ℕ) (said : Option (Option Order)) → n < length ls → l ≡ get_or ls n l → line_of l ≡ said → from_line 0 ls ≡ led done (then (n + 1) said (from_line (n + 1) (drop (n + 1) ls)))
  unfolding from_line
  one_on l said h e s =
      sym so ∙ ap (led done) (at_drop_more (from_line n) ls n l h ∙ ap (λ o. then (n + 1) o (from_line (n + 1) (drop (n + 1) ls))) (ap line_of (sym e) ∙ s))

  pub reading-more : (l : List ℕ) (o : Option Order) (done' : List Order) (m : ℕ) → n < length ls → l ≡ get_or ls n l → line_of l ≡ Some o → done' ≡ done ++ option_to_list o → m ≡ n + 1 → Reading ls done' m
  reading-more l o done' m h e s d k =
      (λ i. led (d i) (from_line (k i) (drop (k i) ls))) ∙ sym (led-then done (n + 1) o (from_line (n + 1) (drop (n + 1) ls))) ∙ sym (one_on l (Some o) h e s)

  pub reading-bad : (l : List ℕ) → n < length ls → l ≡ get_or ls n l → line_of l ≡ None → from_line 0 ls ≡ Err (n + 1)
  reading-bad l h e s = one_on l None h e s

  pub reading-all : length ls ≤ n → from_line 0 ls ≡ Ok done
  unfolding from_line
  reading-all h = sym so ∙ ap (led done) (at_drop_all (from_line n) ls n h) ∙ ap Ok (append-nil done)

-- a line and its number, as they come
pub placed : (ls : List (List ℕ)) (k n : ℕ) (l : List ℕ) → (k < length (enumerate_from 0 ls)) × ((n, l) ≡ get_or (enumerate_from 0 ls) k (n, l)) → (k < length ls) × (n ≡ k) × (l ≡ get_or ls k l)
placed ls k n l h =
    let below : k < length ls = omega (arith, h.0, length-enumerate_from 0 ls) in
    let same = h.1 ∙ get_or-enumerate_from 0 ls k (n, l) below in
    (below, ap (λ p. p.0) same ∙ zero-add k, ap (λ p. p.1) same)

-- the lines of a text, each with the number of those before it
pub numbered-lines : {F : Type 0} (g : Mut F (Bor ℕ × Unit {0}) Bool) {f : F} (text : List ℕ) (split : Split ℕ F) (numbered it : Enumerate (Split ℕ F)) → split_rest split ≡ text → split_done split ≡ false → split_callee split ≡ f → ((x : ℕ) (b : Bool) (q : F) → CalledAt g f x b q → (q ≡ f) × (b ≡ eqb x 10)) → enumerate_source numbered ≡ split → enumerate_count numbered ≡ 0 → it ≡ numbered → YieldsList (enumerate_steps (split_steps g)) (λ p. (p.0, p.1.now)) it (enumerate_from 0 (lines_of text))
numbered-lines g text split numbered it rest done callee test source count same =
    YieldsList-at same (YieldsList-from_enumerate (YieldsList-at source (YieldsList-from_slice_split g (λ b. eqb b 10) text rest done callee test)) count)

-- a bad line has a byte
pub bad-some : (l : List ℕ) → line_of l ≡ None → 0 < length l
unfolding words_of
bad-some [] e = absurd cc
bad-some (b ∷ bs) e = omega arith

-- the exit of a `?` in a reader of a script
pub script-broken : (r : Result (Vec Command Global) Unreadable) (e : Unreadable) (n : ℕ) (said : Option (Option Order)) (script : Result (List Order) ℕ) → IsErrAnd r (λ y. y ≡ e) → Numbered n said (Err e) → (said ≡ None → script ≡ Err n) → Script r script
script-broken (Ok v) e n said script h k f = absurd h
script-broken (Err y) e n said script h k f = go y (subst (λ z. Numbered n said (Err z)) (sym h) k)
  where
    go : (y : Unreadable) → Numbered n said (Err y) → Script (Err y) script
    go NoMemory k = tt
    go (Line m) k = f k.0 ∙ ap Err (sym k.1)

-- what a line says goes to the others
pub extended : (old new : List Command) (said : Option Command) (xs : List Command) → map (λ x. x) xs ≡ option_to_list said → new ≡ old ++ xs → map order_of new ≡ map order_of old ++ option_to_list (option_map order_of said)
extended old new said xs e n =
    ap (map order_of) (n ∙ ap (λ l. old ++ l) (sym (map-id xs) ∙ e)) ∙ map-append order_of old (option_to_list said) ∙ ap (λ l. map order_of old ++ l) (go said)
  where
    go : (o : Option Command) → map order_of (option_to_list o) ≡ option_to_list (option_map order_of o)
    go None = refl
    go (Some x) = refl
