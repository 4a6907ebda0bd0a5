-- Files as the environment of programs, and a put that ends well. Assumes nothing.
use Rattle.std.proofs.Common.{◌≡◌, ℕ, zero, suc, ◌-◌, Bool, true, false, cond, ◌&&◌, ltb, leb, ◌⊎◌, List, [], ◌∷◌, ◌++◌, length, Some, None, Option, sym, refl, ap, ◌∙◌, inl, inr}
use mathlib.Core.List.{reverse_aux}
use Rattle.std.proofs.lemmas.Bool.{true≢false}
use Rattle.model.specs.Keyed.{find, every, numbers}
use Rattle.model.specs.Files.{Limits, Files, Put, Event, Begin, Write, Commit, GiveUp, BeginGet, fresh, same, put_number, get_number, can_begin, can_commit, committing, file_of, step, newer, after, last_put}
use Rattle.model.specs.Rows.{Playing, rows, beside}
use Rattle.model.specs.Put.{Ended, Well, BadName, NoRoom, NotWhole, At, NameLength, Name, Size, Block, Digest, Head, Body, Over, Which, IsPut, IsGet, Storing, Told, told, over, if_some, is_name_byte, number, unused, to_come, named, undo, turned_by, came, closed, play, storage}
use Rattle.model.specs.PutPromises.{StorageIsFiles, PutWhole, EndsWellIfWhole}
use Rattle.model.proofs.FileLists.{same-eq, same_refl}
use Rattle.model.proofs.FileHistory.{files-whole}
use Rattle.model.proofs.Shared.{shared_keeps}

play-after : (l : Limits) (d : ℕ → List ℕ) (vs fs : List Event) → play l vs (after l d fs) ≡ after l d (reverse_aux vs fs)
unfolding play after
play-after l d [] fs = refl
play-after l d (v ∷ vs) fs = play-after l d vs (v ∷ fs)

abbrev Reached : Limits → (ℕ → List ℕ) → Files → Type 0
Reached l d s = (fs : List Event) × (s ≡ after l d fs)

played-reached : (l : Limits) (d : ℕ → List ℕ) (vs : List Event) (s : Files) → Reached l d s → Reached l d (play l vs s)
played-reached l d vs s h = (reverse_aux vs h.0, ap (play l vs) h.1 ∙ play-after l d vs h.0)

pub storage-is-files : StorageIsFiles
unfolding after
storage-is-files r l digest table second d vs =
    shared_keeps r (beside (rows table) (storage l digest) second) (Reached l d) in_turn at_end (fresh d) vs ([], refl)
  where
    in_turn : (e : Files) (s : Playing ⊎ Storing) (bs : List ℕ) (eof : Bool) → Reached l d e → Reached l d ((beside (rows table) (storage l digest) second).after e s bs eof)
    in_turn e (inl x) bs eof h = h
    in_turn e (inr x) bs eof h = played-reached l d (turned_by l digest e x bs eof).events e h

    at_end : (e : Files) (s : Playing ⊎ Storing) → Reached l d e → Reached l d ((beside (rows table) (storage l digest) second).release e s)
    at_end e (inl x) h = h
    at_end e (inr x) h = played-reached l d (undo l digest x.at) e h

ended_well : Ended → Bool
ended_well Well = true
ended_well BadName = false
ended_well NoRoom = false
ended_well NotWhole = false

is_well : At → Bool
is_well (NameLength w) = false
is_well (Name w) = false
is_well (Size name) = false
is_well (Block k rest) = false
is_well (Digest k) = false
is_well (Head g) = false
is_well (Body g bs) = false
is_well (Over x) = ended_well x

-- a state that is not over, or not well
never : (a : At) → is_well a ≡ false → a ≡ Over Well → ⊥
unfolding is_well ended_well
never a e w = true≢false (sym (ap is_well w) ∙ e)

module _ (l : Limits) (digest : List ℕ → List ℕ) where
  to-come : (k m : ℕ) (vs : List Event) → is_well (to_come l digest k m vs).state.at ≡ false
  unfolding is_well
  to-come k zero vs = refl
  to-come k (suc m) vs = refl

  is-named : (w : Which) (name : List ℕ) (s : Files) → is_well (named l digest w name s).state.at ≡ false
  unfolding is_well ended_well
  is-named IsPut name s = refl
  is-named IsGet name s = go (file_of name s)
    where
      go : (o : Option (List ℕ)) → is_well (if_some o (told (Head (unused (numbers get_number s.gets))) 0 (BeginGet (unused (numbers get_number s.gets)) name ∷ []))).state.at ≡ false
      go None = refl
      go (Some bytes) = refl

  -- one of two, neither of which ends well
  either : (b : Bool) (x y : Told) → is_well x.state.at ≡ false → is_well y.state.at ≡ false → is_well (cond b x y).state.at ≡ false
  either true x y e f = e
  either false x y e f = f

  module _ (d : ℕ → List ℕ) (fs : List Event) (bs : List ℕ) where
    commits-whole : (k : ℕ) (p : Put) → find put_number k (after l d fs).puts ≡ Some p → can_commit l p (after l d fs) ≡ true → file_of p.name (step l (Commit k) (after l d fs)) ≡ Some p.given
    unfolding after last_put
    commits-whole k p f c =
        files-whole l d (Commit k ∷ fs) p.name ∙
        ap (λ o. newer p.name o (last_put l d p.name fs)) (ap (λ o. committing l o (after l d fs)) f ∙ ap (λ b. cond b (Some p) None) c) ∙
        ap (λ b. cond b (Some p.given) (last_put l d p.name fs)) (same_refl p.name)

    -- a put that is whole, of what a turn tells
    abbrev Whole : ℕ → List ℕ → Told → Type 0
    Whole k have t = (p : Put) × (find put_number k (after l d fs).puts ≡ Some p) × (digest p.given ≡ have) × (file_of p.name (play l t.events (after l d fs)) ≡ Some p.given)

    closes : (k : ℕ) (have : List ℕ) (o : Option Put) → find put_number k (after l d fs).puts ≡ o → (closed l digest k have o (after l d fs)).state.at ≡ Over Well → Whole k have (closed l digest k have o (after l d fs))
    unfolding play is_well ended_well
    closes k have None f w = absurd (never (Over NoRoom) refl w)
    closes k have (Some p) f w = go (can_commit l p (after l d fs)) refl (same (digest p.given) have) refl w
      where
        tells : Bool → Bool → Told
        tells a b = cond a (cond b (over Well (Commit k ∷ [])) (over NotWhole (GiveUp k ∷ []))) (over NoRoom (GiveUp k ∷ []))

        go : (a : Bool) → can_commit l p (after l d fs) ≡ a → (b : Bool) → same (digest p.given) have ≡ b → (tells a b).state.at ≡ Over Well → Whole k have (tells a b)
        go true c true q w = (p, f, same-eq (digest p.given) have q, commits-whole k p f c)
        go true c false q w = absurd (never (Over NotWhole) refl w)
        go false c b q w = absurd (never (Over NoRoom) refl w)

    -- the state that a turn finds
    abbrev at_of : At → List ℕ → ℕ → Storing
    at_of a have want = record { at = a; have = have; want = want }

    abbrev Ending : At → List ℕ → ℕ → Type 0
    Ending a have want = PutWhole l digest (after l d fs) (at_of a have want) bs false ⊎ (((g : ℕ) × (a ≡ Body g [])) ⊎ (a ≡ Over Well))

    -- what has not come whole does not end well
    tells : Bool → At → List ℕ → ℕ → Told
    tells b a have want = cond b (record { state = record { at = a; have = have ++ bs; want = want - length bs }; events = [] }) (came l digest a (have ++ bs) (after l d fs))

    digest-ends : (k : ℕ) (have : List ℕ) (want : ℕ) → (turned_by l digest (after l d fs) (at_of (Digest k) have want) bs false).state.at ≡ Over Well → PutWhole l digest (after l d fs) (at_of (Digest k) have want) bs false
    unfolding is_well tells
    digest-ends k have want w = let h = go (ltb (length bs) want) w in record { put = k; at = refl; under = h.0; found = h.1; fits = h.2; file = h.3 }
      where
        go : (b : Bool) → (tells b (Digest k) have want).state.at ≡ Over Well → Whole k (have ++ bs) (tells b (Digest k) have want)
        go true w = absurd (never (Digest k) refl w)
        go false w = closes k (have ++ bs) (find put_number k (after l d fs).puts) refl w

    ends : (a : At) (have : List ℕ) (want : ℕ) → (turned_by l digest (after l d fs) (at_of a have want) bs false).state.at ≡ Over Well → Ending a have want
    unfolding is_well ended_well tells
    ends (NameLength k) have want w =
        absurd
        (never (tells (ltb (length bs) want) (NameLength k) have want).state.at
        (either (ltb (length bs) want) (record { state = record { at = NameLength k; have = have ++ bs; want = want - length bs }; events = [] }) (came l digest (NameLength k) (have ++ bs) (after l d fs)) refl
        (either (leb 1 (number 0 (have ++ bs)) && leb (number 0 (have ++ bs)) 32) (told (Name k) (number 0 (have ++ bs)) []) (over BadName []) refl refl))
        w)
    ends (Name k) have want w =
        absurd
        (never (tells (ltb (length bs) want) (Name k) have want).state.at
        (either (ltb (length bs) want) (record { state = record { at = Name k; have = have ++ bs; want = want - length bs }; events = [] }) (came l digest (Name k) (have ++ bs) (after l d fs)) refl
        (either (every is_name_byte (have ++ bs)) (named l digest k (have ++ bs) (after l d fs)) (over BadName []) (is-named k (have ++ bs) (after l d fs)) refl))
        w)
    ends (Size name) have want w =
        let n = number 0 (have ++ bs) in
        let k = unused (numbers put_number (after l d fs).puts) in
        absurd
        (never (tells (ltb (length bs) want) (Size name) have want).state.at
        (either (ltb (length bs) want) (record { state = record { at = Size name; have = have ++ bs; want = want - length bs }; events = [] }) (came l digest (Size name) (have ++ bs) (after l d fs)) refl
        (either (can_begin l k n (after l d fs)) (to_come l digest k n (Begin k name n ∷ [])) (over NoRoom []) (to-come k n (Begin k name n ∷ [])) refl))
        w)
    ends (Block k rest) have want w =
        absurd
        (never (tells (ltb (length bs) want) (Block k rest) have want).state.at
        (either (ltb (length bs) want) (record { state = record { at = Block k rest; have = have ++ bs; want = want - length bs }; events = [] }) (came l digest (Block k rest) (have ++ bs) (after l d fs)) refl
        (to-come k rest (Write k (have ++ bs) ∷ [])))
        w)
    ends (Digest k) have want w = inl (digest-ends k have want w)
    ends (Head g) have want w =
        absurd
        (never (tells (ltb (length bs) want) (Head g) have want).state.at
        (either (ltb (length bs) want) (record { state = record { at = Head g; have = have ++ bs; want = want - length bs }; events = [] }) (came l digest (Head g) (have ++ bs) (after l d fs)) refl refl)
        w)
    ends (Body g []) have want w = inr (inl (g, refl))
    ends (Body g (b ∷ rest)) have want w =
        absurd
        (never (tells (ltb (length bs) want) (Body g (b ∷ rest)) have want).state.at
        (either (ltb (length bs) want) (record { state = record { at = Body g (b ∷ rest); have = have ++ bs; want = want - length bs }; events = [] }) (came l digest (Body g (b ∷ rest)) (have ++ bs) (after l d fs)) refl refl)
        w)
    ends (Over x) have want w = inr (inr (go (ltb (length bs) want) w))
      where
        go : (b : Bool) → (tells b (Over x) have want).state.at ≡ Over Well → Over x ≡ Over Well
        go true w = w
        go false w = w

pub ends-well-if-whole : EndsWellIfWhole
unfolding is_well ended_well
ends-well-if-whole l digest d fs x bs true w = absurd (never (Over NotWhole) refl w)
ends-well-if-whole l digest d fs x bs false w = ends l digest d fs bs x.at x.have x.want w
