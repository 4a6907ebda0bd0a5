-- One direction of bytes, with its end, and one window; both directions of a channel are such. Assumes nothing.
use Rattle.std.proofs.Common.{◌≡◌, ℕ, zero, suc, ◌+◌, ◌-◌, ◌<◌, ◌≤◌, min, Bool, true, false, cond, not, ◌&&◌, ◌||◌, eqb, List, [], ◌∷◌, ◌++◌, length, take, drop, Some, None, Option, sym, refl, ap, ◌∙◌, subst, append_assoc, append-nil, suc-add, zero-add, arith}
use Rattle.std.proofs.lemmas.List.{length-append, length-take, length-drop, take-append-drop, take-append-le, drop_all, nil_from_length}
use Rattle.std.proofs.lemmas.Bool.{eqb-true, and_parts, true≢false}
use Rattle.model.specs.Messages.{parts, ready, is_some}

-- what is on the way: a piece, or the end
pub data Cell : Type 0 where
  Piece : List ℕ → Cell
  Last : ℕ → Cell

unfoldable pub bytes : List Cell → List ℕ
bytes [] = []
bytes (Piece bs ∷ cs) = bs ++ bytes cs
bytes (Last n ∷ cs) = bytes cs

unfoldable pub lasts : List Cell → List ℕ
lasts [] = []
lasts (Piece bs ∷ cs) = lasts cs
lasts (Last n ∷ cs) = n ∷ lasts cs

-- nothing stands behind the end
unfoldable pub Ordered : List Cell → Type 0
Ordered [] = Unit {0}
Ordered (Piece bs ∷ cs) = Ordered cs
Ordered (Last n ∷ cs) = cs ≡ []

unfoldable pub pieces : List (List ℕ) → List Cell
pieces [] = []
pieces (bs ∷ rest) = Piece bs ∷ pieces rest

abbrev pub list_of : Option ℕ → List ℕ
list_of None = []
list_of (Some n) = n ∷ []

abbrev pub last_of : Option ℕ → List Cell
last_of None = []
last_of (Some n) = Last n ∷ []

-- all: what there is to send; sent: how much of it was; end, said: its end, and whether that was sent; cells: on the way; got, told: what came
pub record Flow (all : List ℕ) (sent : ℕ) (end : Option ℕ) (said : Bool) (cells : List Cell) (got : List ℕ) (told : Option ℕ) : Type 0 where
  pub kept : got ++ bytes cells ≡ take sent all
  pub within : sent ≤ length all
  pub ends : list_of told ++ lasts cells ≡ cond said (list_of end) []
  pub ordered : Ordered cells
  pub quiet : is_some told ≡ true → cells ≡ []
  pub whole : said ≡ true → (sent ≡ length all) × (is_some end ≡ true)

pub bytes-append : (a b : List Cell) → bytes (a ++ b) ≡ bytes a ++ bytes b
unfolding bytes
bytes-append [] b = refl
bytes-append (Piece bs ∷ cs) b = ap (λ l. bs ++ l) (bytes-append cs b) ∙ sym (append_assoc bs (bytes cs) (bytes b))
bytes-append (Last n ∷ cs) b = bytes-append cs b

pub lasts-append : (a b : List Cell) → lasts (a ++ b) ≡ lasts a ++ lasts b
unfolding lasts
lasts-append [] b = refl
lasts-append (Piece bs ∷ cs) b = lasts-append cs b
lasts-append (Last n ∷ cs) b = ap (λ l. n ∷ l) (lasts-append cs b)

pub ordered-append : (a b : List Cell) → lasts a ≡ [] → Ordered b → Ordered (a ++ b)
unfolding lasts Ordered
ordered-append [] b e h = h
ordered-append (Piece bs ∷ cs) b e h = ordered-append cs b e h
ordered-append (Last n ∷ cs) b e h = absurd (let z : ◌≡◌ {A = ℕ} 0 1 = cc in omega arith)

pub lasts-pieces : (ps : List (List ℕ)) → lasts (pieces ps) ≡ []
unfolding lasts pieces
lasts-pieces [] = refl
lasts-pieces (p ∷ ps) = lasts-pieces ps

pub ordered-pieces : (ps : List (List ℕ)) (b : List Cell) → Ordered b → Ordered (pieces ps ++ b)
unfolding pieces Ordered
ordered-pieces [] b h = h
ordered-pieces (p ∷ ps) b h = ordered-pieces ps b h

-- parts joined are the whole
pub bytes-parts : (k p : ℕ) (bs : List ℕ) → 0 < p → length bs ≤ k → bytes (pieces (parts k p bs)) ≡ bs
unfolding bytes pieces parts
bytes-parts zero p bs h l = sym (nil_from_length bs (omega arith))
bytes-parts (suc k) p [] h l = refl
bytes-parts (suc k) p (b ∷ bs) h l =
    let ih = bytes-parts k p (drop p (b ∷ bs)) h (let e = length-drop p (b ∷ bs) in omega arith) in
    ap (λ t. take p (b ∷ bs) ++ t) ih ∙ take-append-drop p (b ∷ bs)

pub parts_none : (k p : ℕ) → parts k p [] ≡ []
unfolding parts
parts_none zero p = refl
parts_none (suc k) p = refl

-- there are at most as many parts as bytes
pub parts-few : (k p : ℕ) (bs : List ℕ) → length (parts k p bs) ≤ k
unfolding parts
parts-few zero p bs = omega arith
parts-few (suc k) p [] = omega arith
parts-few (suc k) p (b ∷ bs) = let ih = parts-few k p (drop p (b ∷ bs)) in omega arith

take-nil : (n : ℕ) → take {A = ℕ} n [] ≡ []
take-nil zero = refl
take-nil (suc n) = refl

take-length : (k : ℕ) (xs : List ℕ) → take (length (take k xs)) xs ≡ take k xs
take-length zero xs = refl
take-length (suc k) [] = refl
take-length (suc k) (x ∷ xs) = ap (λ l. x ∷ l) (take-length k xs)

take_behind : (s k : ℕ) (xs : List ℕ) → take (s + length (take k (drop s xs))) xs ≡ take s xs ++ take k (drop s xs)
take_behind zero k xs = ap (λ n. take n xs) (zero-add (length (take k xs))) ∙ take-length k xs
take_behind (suc s) k [] = take-nil (suc s + length (take k (drop (suc s) []))) ∙ sym (take-nil k)
take_behind (suc s) k (x ∷ xs) = ap (λ n. take n (x ∷ xs)) (suc-add s (length (take k (drop s xs)))) ∙ ap (λ l. x ∷ l) (take_behind s k xs)

pub take_more : (all : List ℕ) (sent may : ℕ) → take (sent + length (ready all sent may)) all ≡ take sent all ++ ready all sent may
take_more all sent may = take_behind sent (may - sent) all

pub ready-length : (all : List ℕ) (sent may : ℕ) → length (ready all sent may) ≡ min (may - sent) (length all - sent)
ready-length all sent may = length-take (may - sent) (drop sent all) ∙ ap (λ n. min (may - sent) n) (length-drop sent all)

-- nothing was sent yet
pub flow-fresh : (all : List ℕ) (end : Option ℕ) (sent : ℕ) (said : Bool) → sent ≡ 0 → said ≡ false → Flow all sent end said [] [] None
unfolding bytes lasts Ordered
flow-fresh all end sent said e f =
    record { kept = sym (ap (λ n. take n all) e); within = omega arith; ends = sym (ap (λ b. cond b (list_of end) []) f); ordered = tt; quiet = λ h. refl; whole = λ h. absurd (true≢false (sym h ∙ f)) }

-- how much came and is on the way was sent
pub flow-count : {all : List ℕ} {sent : ℕ} {end : Option ℕ} {said : Bool} {cells : List Cell} {got : List ℕ} {told : Option ℕ} → Flow all sent end said cells got told → length got + length (bytes cells) ≡ sent
flow-count {all} {sent} {end} {said} {cells} {got} {told} f =
    let a = length-append got (bytes cells) in let b = ap length f.kept in let c = length-take sent all in let d = f.within in omega arith

-- more to send, or an end, comes where none was yet
pub flow-unsaid : {all : List ℕ} {sent : ℕ} {said : Bool} {cells : List Cell} {got : List ℕ} {told : Option ℕ} → Flow all sent None said cells got told → said ≡ false
flow-unsaid {all} {sent} {said} f = go said f.whole
  where
    go : (b : Bool) → (b ≡ true → (sent ≡ length all) × (is_some {A = ℕ} None ≡ true)) → b ≡ false
    go true w = absurd (true≢false (sym (w refl).1))
    go false w = refl

pub flow-grow : {all : List ℕ} {sent : ℕ} {said : Bool} {cells : List Cell} {got : List ℕ} {told : Option ℕ} (bs : List ℕ) → Flow all sent None said cells got told → Flow (all ++ bs) sent None said cells got told
flow-grow {all} {sent} {said} bs f =
    record {
      kept = f.kept ∙ sym (take-append-le sent all bs f.within);
      within = let a = length-append all bs in let b = f.within in omega arith;
      ends = f.ends;
      ordered = f.ordered;
      quiet = f.quiet;
      whole = λ h. absurd (true≢false (sym h ∙ flow-unsaid f));
    }

pub flow-end : {all : List ℕ} {sent : ℕ} {said : Bool} {cells : List Cell} {got : List ℕ} {told : Option ℕ} (n : ℕ) → Flow all sent None said cells got told → Flow all sent (Some n) said cells got told
flow-end {all} {sent} {said} n f =
    record {
      kept = f.kept;
      within = f.within;
      ends = f.ends ∙ ap (λ b. cond b [] []) (flow-unsaid f) ∙ sym (ap (λ b. cond b (n ∷ []) []) (flow-unsaid f));
      ordered = f.ordered;
      quiet = f.quiet;
      whole = λ h. absurd (true≢false (sym h ∙ flow-unsaid f));
    }

pub flow-piece : {all : List ℕ} {sent : ℕ} {end : Option ℕ} {said : Bool} {cells : List Cell} {got : List ℕ} {told : Option ℕ} (bs : List ℕ) → Flow all sent end said (Piece bs ∷ cells) got told → Flow all sent end said cells (got ++ bs) told
unfolding bytes lasts Ordered
flow-piece {all} {sent} {end} {said} {cells} {got} {told} bs f =
    record {
      kept = append_assoc got bs (bytes cells) ∙ f.kept;
      within = f.within;
      ends = f.ends;
      ordered = f.ordered;
      quiet = λ h. absurd (let e = f.quiet h in let z : ◌≡◌ {A = ℕ} 0 1 = cc in omega arith);
      whole = f.whole;
    }

-- nothing comes behind the end
pub flow-open : {all : List ℕ} {sent : ℕ} {end : Option ℕ} {said : Bool} {c : Cell} {cells : List Cell} {got : List ℕ} {told : Option ℕ} → Flow all sent end said (c ∷ cells) got told → told ≡ None
flow-open {all} {sent} {end} {said} {c} {cells} {got} {told} f = go told f.quiet
  where
    go : (o : Option ℕ) → (is_some o ≡ true → c ∷ cells ≡ []) → o ≡ None
    go None q = refl
    go (Some n) q = absurd (let e = q refl in let z : ◌≡◌ {A = ℕ} 0 1 = cc in omega arith)

pub flow-last : {all : List ℕ} {sent : ℕ} {end : Option ℕ} {said : Bool} {cells : List Cell} {got : List ℕ} {told : Option ℕ} (n : ℕ) → Flow all sent end said (Last n ∷ cells) got told → Flow all sent end said cells got (Some n)
unfolding bytes lasts Ordered
flow-last {all} {sent} {end} {said} {cells} {got} {told} n f =
    record {
      kept = f.kept;
      within = f.within;
      ends = ap (λ o. list_of o ++ (n ∷ lasts cells)) (sym (flow-open f)) ∙ f.ends;
      ordered = let e = f.ordered in subst (λ (l : List Cell). Ordered l) (sym e) tt;
      quiet = λ h. f.ordered;
      whole = f.whole;
    }

-- whether the end goes now, with all that was there
abbrev pub last_now : (all : List ℕ) (sent : ℕ) (end : Option ℕ) (said : Bool) (may : ℕ) → Bool
last_now all sent end said may = is_some end && (eqb (sent + length (ready all sent may)) (length all) && not said)

-- what goes: all that may, in parts, and then the end
abbrev pub goes_out : (part : ℕ) (all : List ℕ) (sent : ℕ) (end : Option ℕ) (said : Bool) (may : ℕ) → List Cell
goes_out part all sent end said may = pieces (parts (length (ready all sent may)) part (ready all sent may)) ++ cond (last_now all sent end said may) (last_of end) []

bytes-last : (b : Bool) (end : Option ℕ) → bytes (cond b (last_of end) []) ≡ []
unfolding bytes
bytes-last true None = refl
bytes-last true (Some n) = refl
bytes-last false end = refl

ordered-last : (b : Bool) (end : Option ℕ) → Ordered (cond b (last_of end) [])
unfolding Ordered
ordered-last true None = tt
ordered-last true (Some n) = refl
ordered-last false end = tt

-- where the end was said, nothing more goes
ready-none : (all : List ℕ) (n may : ℕ) → n ≡ length all → ready all n may ≡ []
ready-none all n may e = let z = ready-length all n may in nil_from_length (ready all n may) (omega arith)

and-false : (a b : Bool) → (a && (b && false)) ≡ false
and-false true true = refl
and-false true false = refl
and-false false b = refl

goes_out-said : (part : ℕ) (all : List ℕ) (sent : ℕ) (end : Option ℕ) (may : ℕ) → sent ≡ length all → goes_out part all sent end true may ≡ []
unfolding pieces
goes_out-said part all sent end may e =
    ap (λ b. pieces (parts (length (ready all sent may)) part (ready all sent may)) ++ cond b (last_of end) []) (and-false (is_some end) (eqb (sent + length (ready all sent may)) (length all)))
    ∙ append-nil (pieces (parts (length (ready all sent may)) part (ready all sent may))) ∙ ap (λ g. pieces (parts (length g) part g)) (ready-none all sent may e) ∙ ap pieces (parts_none 0 part)

lasts-cond : (b : Bool) (end : Option ℕ) → lasts (cond b (last_of end) []) ≡ cond b (list_of end) []
unfolding lasts
lasts-cond true None = refl
lasts-cond true (Some n) = refl
lasts-cond false end = refl

module _ {all : List ℕ} {sent : ℕ} {end : Option ℕ} {cells : List Cell} {got : List ℕ} {told : Option ℕ} (part may : ℕ) (pos : 0 < part) where
  send-kept : (said : Bool) → Flow all sent end said cells got told → got ++ bytes (cells ++ goes_out part all sent end said may) ≡ take (sent + length (ready all sent may)) all
  send-kept said f =
      let g = ready all sent may in
      let b = last_now all sent end said may in
      ap (λ l. got ++ l) (bytes-append cells (goes_out part all sent end said may) ∙ ap (λ l. bytes cells ++ l) (bytes-append (pieces (parts (length g) part g)) (cond b (last_of end) []) ∙ ap (λ l. bytes (pieces (parts (length g) part g)) ++ l) (bytes-last b end) ∙ append-nil (bytes (pieces (parts (length g) part g))) ∙ bytes-parts (length g) part g pos (omega arith)))
      ∙ sym (append_assoc got (bytes cells) g) ∙ ap (λ l. l ++ g) f.kept ∙ sym (take_more all sent may)

  send-within : (said : Bool) → Flow all sent end said cells got told → sent + length (ready all sent may) ≤ length all
  send-within said f = let z = ready-length all sent may in let w = f.within in omega arith

  -- the end was not said yet: it is told to nobody, and not on the way
  pub unsaid-lasts : Flow all sent end false cells got told → (told ≡ None) × (lasts cells ≡ [])
  unsaid-lasts f = go told f.ends
    where
      go : (o : Option ℕ) → list_of o ++ lasts cells ≡ [] → (o ≡ None) × (lasts cells ≡ [])
      go None e = (refl, e)
      go (Some n) e = absurd (let z : ◌≡◌ {A = ℕ} 0 1 = cc in omega arith)

  pub flow-send : (said : Bool) → Flow all sent end said cells got told → Flow all (sent + length (ready all sent may)) end (said || last_now all sent end said may) (cells ++ goes_out part all sent end said may) got told
  flow-send true f =
      let e = (f.whole refl).0 in
      let z : sent ≡ sent + length (ready all sent may) = let y = ap length (ready-none all sent may e) in omega arith in
      subst (λ (cs : List Cell). Flow all (sent + length (ready all sent may)) end true cs got told) (sym (ap (λ l. cells ++ l) (goes_out-said part all sent end may e) ∙ append-nil cells))
      (subst (λ (n : ℕ). Flow all n end true cells got told) z f)
  flow-send false f =
      record {
        kept = send-kept false f;
        within = send-within false f;
        ends = let g = ready all sent may in let b = last_now all sent end false may in
            ap (λ o. list_of o ++ lasts (cells ++ goes_out part all sent end false may)) (unsaid-lasts f).0 ∙ lasts-append cells (goes_out part all sent end false may)
            ∙ ap (λ l. l ++ lasts (goes_out part all sent end false may)) (unsaid-lasts f).1 ∙ lasts-append (pieces (parts (length g) part g)) (cond b (last_of end) [])
            ∙ ap (λ l. l ++ lasts (cond b (last_of end) [])) (lasts-pieces (parts (length g) part g)) ∙ lasts-cond b end;
        ordered = ordered-append cells (goes_out part all sent end false may) (unsaid-lasts f).1 (ordered-pieces (parts (length (ready all sent may)) part (ready all sent may)) (cond (last_now all sent end false may) (last_of end) []) (ordered-last (last_now all sent end false may) end));
        quiet = λ h. absurd (true≢false (sym h ∙ ap is_some (unsaid-lasts f).0));
        whole = λ h. let a = and_parts (is_some end) (eqb (sent + length (ready all sent may)) (length all) && true) h in
            (eqb-true (sent + length (ready all sent may)) (length all) (and_parts (eqb (sent + length (ready all sent may)) (length all)) true a.1).0, a.0);
      }

-- What came is a prefix, and the end is told only when that was all.
pub flow-prefix : {all : List ℕ} {sent : ℕ} {end : Option ℕ} {said : Bool} {cells : List Cell} {got : List ℕ} {told : Option ℕ} → Flow all sent end said cells got told → got ++ (bytes cells ++ drop sent all) ≡ all
flow-prefix {all} {sent} {end} {said} {cells} {got} {told} f = sym (append_assoc got (bytes cells) (drop sent all)) ∙ ap (λ l. l ++ drop sent all) f.kept ∙ take-append-drop sent all

pub flow-said : {all : List ℕ} {sent : ℕ} {end : Option ℕ} {said : Bool} {cells : List Cell} {got : List ℕ} (n : ℕ) → Flow all sent end said cells got (Some n) → (said ≡ true) × (end ≡ Some n) × (cells ≡ [])
flow-said {all} {sent} {end} {said} {cells} {got} n f = go said end f.ends f.whole (f.quiet refl)
  where
    go : (b : Bool) (o : Option ℕ) → n ∷ lasts cells ≡ cond b (list_of o) [] → (b ≡ true → (sent ≡ length all) × (is_some o ≡ true)) → cells ≡ [] → (b ≡ true) × (o ≡ Some n) × (cells ≡ [])
    go true None e w q = absurd (true≢false (sym (w refl).1))
    go true (Some m) e w q = (refl, let z : m ≡ n = cc in ap Some z, q)
    go false o e w q = absurd (let z : ◌≡◌ {A = ℕ} 0 1 = cc in omega arith)

pub flow-told : {all : List ℕ} {sent : ℕ} {end : Option ℕ} {said : Bool} {cells : List Cell} {got : List ℕ} (n : ℕ) → Flow all sent end said cells got (Some n) → (end ≡ Some n) × (bytes cells ++ drop sent all ≡ [])
unfolding bytes
flow-told {all} {sent} {end} {said} {cells} {got} n f =
    let a = flow-said n f in
    let w = f.whole a.0 in
    (a.1, ap (λ c. bytes c ++ drop sent all) a.2 ∙ drop_all sent all (omega arith))
