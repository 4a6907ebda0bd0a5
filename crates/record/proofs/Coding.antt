-- A block from a record, and the record back.
use Rattle.std.proofs.Common.{◌≡◌, ℕ, ◌+◌, ◌-◌, ◌*◌, ◌/◌, ◌%◌, ◌^◌, ◌<◌, ◌≤◌, Bool, true, false, ◌&&◌, eqb, leb, List, [], ◌∷◌, ◌++◌, length, get_or, take, drop, replicate, Some, None, sym, refl, ap, ◌∙◌, arith}
use Rattle.std.proofs.lemmas.Bool.{and_parts, and_left, and_right, and_from, le-leb, lt-leb}
use Rattle.std.proofs.lemmas.List.{append_assoc, append-nil, take_at, drop_at, drop-drop, drop-replicate, length-append, get_or-append_right}
use Rattle.model.specs.Files.{same}
use Rattle.sha256.specs.Message.{SHA256, Bytes32, Bytes64, Be32, Output}
use Rattle.blocks.specs.Sets.{has, tally}
use Rattle.record.specs.Names.{name_of, is_name}
use Rattle.record.specs.Records.{needed, makes_sense, front, encode, guess, decode, chosen, Be64, Whole}
use Rattle.record.specs.declared.record.Record.{Record}
use Rattle.record.proofs.Naming.{name-short}
use Rattle.record.proofs.Same.{same-eq, same_refl}

-- one part after another into zeros
pub put_next : (p part out new : List ℕ) (n at : ℕ) → out ≡ p ++ replicate n 0 → length p ≡ at → length part ≤ n
    → new ≡ take at out ++ (part ++ drop (at + length part) out) → new ≡ (p ++ part) ++ replicate (n - length part) 0
put_next p part out new n at e l h q =
    let t : take at out ≡ p = ap (take at) e ∙ take_at p (replicate n 0) at l in
    let d : drop (at + length part) out ≡ replicate (n - length part) 0 =
    sym (drop-drop (length part) at out) ∙ ap (λ (v : List ℕ). drop (length part) v) (ap (drop at) e ∙ drop_at p (replicate n 0) at l)
    ∙ drop-replicate (length part) n 0 in
    q ∙ ap (λ (v : List ℕ). v ++ (part ++ drop (at + length part) out)) t ∙ ap (λ (v : List ℕ). p ++ (part ++ v)) d
    ∙ sym (append_assoc p part (replicate (n - length part) 0))

pub length-sha : (m : List ℕ) → length (SHA256 m) ≡ 32
unfolding SHA256 Output
length-sha m = refl

-- the parts one after another are the first 480 bytes
assembled : (r : Record) → (((((r.name.size ∷ []) ++ r.name.bytes) ++ Bytes64 r.count) ++ Bytes32 r.size) ++ r.blocks.bits) ++ replicate 179 0 ≡ front r
unfolding front
assembled r = simp append_assoc

-- and the checksum behind them
sealed : (r : Record) (p o5 o6 cs : List ℕ) → length p ≡ 301 → p ++ replicate 179 0 ≡ front r → o5 ≡ p ++ replicate 211 0 → cs ≡ SHA256 (take 480 o5)
    → o6 ≡ take 480 o5 ++ (cs ++ drop (480 + length cs) o5) → o6 ≡ encode r
unfolding encode
sealed r p o5 o6 cs l a e ec e6 =
    let f : List ℕ = p ++ replicate 179 0 in
    let lf : length f ≡ 480 = length-append p (replicate 179 0) ∙ ap (λ (n : ℕ). n + 179) l in
    let g : o5 ≡ f ++ replicate 32 0 = e ∙ sym (append_assoc p (replicate 179 0) (replicate 32 0)) in
    let t : take 480 o5 ≡ f = ap (take 480) g ∙ take_at f (replicate 32 0) 480 lf in
    let c : cs ≡ SHA256 (front r) = ec ∙ ap SHA256 (t ∙ a) in
    let lc : length cs ≡ 32 = ap length c ∙ length-sha (front r) in
    put_next f cs o5 o6 32 480 g lf (omega arith) e6 ∙ ap (λ (n : ℕ). (f ++ cs) ++ replicate (32 - n) 0) lc ∙ append-nil (f ++ cs)
    ∙ (λ i. a i ++ c i)

pub encode-is : (r : Record) (o1 o2 o3 o4 o5 o6 cs : List ℕ) → length r.name.bytes ≡ 32 → length r.blocks.bits ≡ 256
    → o1 ≡ take 0 (replicate 512 0) ++ ((r.name.size ∷ []) ++ drop 1 (replicate 512 0))
    → o2 ≡ take 1 o1 ++ (r.name.bytes ++ drop (1 + length r.name.bytes) o1)
    → o3 ≡ take 33 o2 ++ (Bytes64 r.count ++ drop 41 o2)
    → o4 ≡ take 41 o3 ++ (Bytes32 r.size ++ drop 45 o3)
    → o5 ≡ take 45 o4 ++ (r.blocks.bits ++ drop (45 + length r.blocks.bits) o4)
    → cs ≡ SHA256 (take 480 o5)
    → o6 ≡ take 480 o5 ++ (cs ++ drop (480 + length cs) o5)
    → o6 ≡ encode r
encode-is r o1 o2 o3 o4 o5 o6 cs lb ls e1 e2 e3 e4 e5 ec e6 =
    let p1 : List ℕ = r.name.size ∷ [] in
    let p2 : List ℕ = p1 ++ r.name.bytes in
    let p3 : List ℕ = p2 ++ Bytes64 r.count in
    let p4 : List ℕ = p3 ++ Bytes32 r.size in
    let p5 : List ℕ = p4 ++ r.blocks.bits in
    let l2 : length p2 ≡ 33 = length-append p1 r.name.bytes ∙ ap (λ (n : ℕ). 1 + n) lb in
    let l3 : length p3 ≡ 41 = length-append p2 (Bytes64 r.count) ∙ ap (λ (n : ℕ). n + 8) l2 in
    let l4 : length p4 ≡ 45 = length-append p3 (Bytes32 r.size) ∙ ap (λ (n : ℕ). n + 4) l3 in
    let l5 : length p5 ≡ 301 = length-append p4 r.blocks.bits ∙ (λ i. l4 i + ls i) in
    let f1 : o1 ≡ p1 ++ replicate 511 0 = put_next [] p1 (replicate 512 0) o1 512 0 refl refl (omega arith) e1 in
    let f2 : o2 ≡ p2 ++ replicate (511 - length r.name.bytes) 0 = put_next p1 r.name.bytes o1 o2 511 1 f1 refl (omega arith) e2 in
    let g2 : o2 ≡ p2 ++ replicate 479 0 = f2 ∙ ap (λ (n : ℕ). p2 ++ replicate (511 - n) 0) lb in
    let f3 : o3 ≡ p3 ++ replicate 471 0 = put_next p2 (Bytes64 r.count) o2 o3 479 33 g2 l2 (omega arith) e3 in
    let f4 : o4 ≡ p4 ++ replicate 467 0 = put_next p3 (Bytes32 r.size) o3 o4 471 41 f3 l3 (omega arith) e4 in
    let f5 : o5 ≡ p5 ++ replicate (467 - length r.blocks.bits) 0 = put_next p4 r.blocks.bits o4 o5 467 45 f4 l4 (omega arith) e5 in
    let g5 : o5 ≡ p5 ++ replicate 211 0 = f5 ∙ ap (λ (n : ℕ). p5 ++ replicate (467 - n) 0) ls in
    sealed r p5 o5 o6 cs l5 (assembled r) g5 ec e6

four : (n : ℕ) → n < 2 ^ 32 → n / 16777216 % 256 * 16777216 + n / 65536 % 256 * 65536 + n / 256 % 256 * 256 + n % 256 ≡ n
four n h =
    let a : n ≡ n / 256 * 256 + n % 256 = omega arith in
    let b : n / 256 ≡ n / 65536 * 256 + n / 256 % 256 = omega arith in
    let c : n / 65536 ≡ n / 16777216 * 256 + n / 65536 % 256 = omega arith in
    let d : n / 16777216 < 256 = omega arith in
    omega arith

low : (n : ℕ) → n / 16777216 % 256 * 16777216 + n / 65536 % 256 * 65536 + n / 256 % 256 * 256 + n % 256 ≡ n % 4294967296
low n =
    let a : n ≡ n / 256 * 256 + n % 256 = omega arith in
    let b : n / 256 ≡ n / 65536 * 256 + n / 256 % 256 = omega arith in
    let c : n / 65536 ≡ n / 16777216 * 256 + n / 65536 % 256 = omega arith in
    let d : n / 16777216 ≡ n / 4294967296 * 256 + n / 16777216 % 256 = omega arith in
    omega arith

joined : (a b c d e f g k hi lo n : ℕ) → a * 16777216 + b * 65536 + c * 256 + d ≡ hi → e * 16777216 + f * 65536 + g * 256 + k ≡ lo → n ≡ hi * 4294967296 + lo
    → a * 72057594037927936 + b * 281474976710656 + c * 1099511627776 + d * 4294967296 + e * 16777216 + f * 65536 + g * 256 + k ≡ n
joined a b c d e f g k hi lo n p q r = omega arith

spread : (r : Record) (s : List ℕ) → front r ++ s ≡ r.name.size ∷ (r.name.bytes ++ (Bytes64 r.count ++ (Bytes32 r.size ++ (r.blocks.bits ++ (replicate 179 0 ++ s)))))
unfolding front
spread r s = ap (λ (v : List ℕ). r.name.size ∷ v) (simp append_assoc)

eight : (n : ℕ) → n < 2 ^ 64
    → n / 72057594037927936 % 256 * 72057594037927936 + n / 281474976710656 % 256 * 281474976710656 + n / 1099511627776 % 256 * 1099511627776
    + n / 4294967296 % 256 * 4294967296
    + n / 16777216 % 256 * 16777216
    + n / 65536 % 256 * 65536
    + n / 256 % 256 * 256
    + n % 256
    ≡ n
eight n h =
    let k : n / 4294967296 < 2 ^ 32 = omega arith in
    let a : n / 1099511627776 ≡ n / 4294967296 / 256 = omega arith in
    let b : n / 281474976710656 ≡ n / 4294967296 / 65536 = omega arith in
    let c : n / 72057594037927936 ≡ n / 4294967296 / 16777216 = omega arith in
    let high : n / 72057594037927936 % 256 * 16777216 + n / 281474976710656 % 256 * 65536 + n / 1099511627776 % 256 * 256 + n / 4294967296 % 256 ≡ n / 4294967296 =
    (λ i. c i % 256 * 16777216 + b i % 256 * 65536 + a i % 256 * 256 + n / 4294967296 % 256) ∙ four (n / 4294967296) k in
    joined (n / 72057594037927936 % 256) (n / 281474976710656 % 256) (n / 1099511627776 % 256) (n / 4294967296 % 256) (n / 16777216 % 256) (n / 65536 % 256) (n / 256 % 256) (n % 256) (n / 4294967296) (n % 4294967296) n
    high (low n) (omega arith)

-- the parts behind the name's bytes
abbrev behind : Record → List ℕ
behind r = Bytes64 r.count ++ (Bytes32 r.size ++ (r.blocks.bits ++ (replicate 179 0 ++ SHA256 (front r))))

flat : (r : Record) → encode r ≡ r.name.size ∷ (r.name.bytes ++ behind r)
unfolding encode
flat r = spread r (SHA256 (front r))

module _ (x : ℕ) (bs q : List ℕ) (lb : length bs ≡ 32) where
  abbrev all : List ℕ
  all = x ∷ (bs ++ q)

  name-part : take 32 (drop 1 all) ≡ bs
  name-part = take_at bs q 32 lb

  behind-at : (i : ℕ) → 32 ≤ i → get_or (bs ++ q) i 0 ≡ get_or q (i - 32) 0
  behind-at i h = get_or-append_right bs q 32 i 0 lb h

  count-part : Be64 all 33 ≡ Be64 q 0
  count-part =
      let e0 : get_or (bs ++ q) 32 0 ≡ get_or q 0 0 = behind-at 32 (omega arith) in
      let e1 : get_or (bs ++ q) 33 0 ≡ get_or q 1 0 = behind-at 33 (omega arith) in
      let e2 : get_or (bs ++ q) 34 0 ≡ get_or q 2 0 = behind-at 34 (omega arith) in
      let e3 : get_or (bs ++ q) 35 0 ≡ get_or q 3 0 = behind-at 35 (omega arith) in
      let e4 : get_or (bs ++ q) 36 0 ≡ get_or q 4 0 = behind-at 36 (omega arith) in
      let e5 : get_or (bs ++ q) 37 0 ≡ get_or q 5 0 = behind-at 37 (omega arith) in
      let e6 : get_or (bs ++ q) 38 0 ≡ get_or q 6 0 = behind-at 38 (omega arith) in
      let e7 : get_or (bs ++ q) 39 0 ≡ get_or q 7 0 = behind-at 39 (omega arith) in
      λ i. e0 i * 72057594037927936 + e1 i * 281474976710656 + e2 i * 1099511627776 + e3 i * 4294967296 + e4 i * 16777216 + e5 i * 65536 + e6 i * 256 + e7 i

  size-part : Be32 all 41 ≡ Be32 q 8
  size-part =
      let e0 : get_or (bs ++ q) 40 0 ≡ get_or q 8 0 = behind-at 40 (omega arith) in
      let e1 : get_or (bs ++ q) 41 0 ≡ get_or q 9 0 = behind-at 41 (omega arith) in
      let e2 : get_or (bs ++ q) 42 0 ≡ get_or q 10 0 = behind-at 42 (omega arith) in
      let e3 : get_or (bs ++ q) 43 0 ≡ get_or q 11 0 = behind-at 43 (omega arith) in
      λ i. e0 i * 16777216 + e1 i * 65536 + e2 i * 256 + e3 i

  blocks-part : take 256 (drop 45 all) ≡ take 256 (drop 12 q)
  blocks-part = ap (take 256) (sym (drop-drop 12 32 (bs ++ q)) ∙ ap (drop 12) (drop_at bs q 32 lb))

guess-flat : (r : Record) → Whole r → guess (r.name.size ∷ (r.name.bytes ++ behind r)) ≡ r
unfolding guess
guess-flat r w =
    let x : ℕ = r.name.size in
    let bs : List ℕ = r.name.bytes in
    let q : List ℕ = behind r in
    let en : take 32 (drop 1 (x ∷ (bs ++ q))) ≡ bs = name-part x bs q w.name in
    let ec : Be64 (x ∷ (bs ++ q)) 33 ≡ r.count = count-part x bs q w.name ∙ eight r.count w.count in
    let es : Be32 (x ∷ (bs ++ q)) 41 ≡ r.size = size-part x bs q w.name ∙ four r.size w.size in
    let eb : take 256 (drop 45 (x ∷ (bs ++ q))) ≡ r.blocks.bits = blocks-part x bs q w.name ∙ take_at r.blocks.bits (replicate 179 0 ++ SHA256 (front r)) 256 w.blocks in
    λ i. record { name = record { size = x; bytes = en i }; count = ec i; size = es i; blocks = record { bits = eb i } }

pub guess-encode : (r : Record) → Whole r → guess (encode r) ≡ r
guess-encode r w = ap guess (flat r) ∙ guess-flat r w

pub senseless : (y : List ℕ) → makes_sense (guess y) ≡ false → decode y ≡ None
unfolding decode
senseless y e = ap (λ (b : Bool). chosen (b && same (encode (guess y)) y) (guess y)) e

pub misfit : (y : List ℕ) → same (encode (guess y)) y ≡ false → decode y ≡ None
unfolding decode
misfit y e = ap (λ (b : Bool). chosen b (guess y)) (and_right (makes_sense (guess y)) (same (encode (guess y)) y) e)

pub fitting : (y : List ℕ) → makes_sense (guess y) ≡ true → same (encode (guess y)) y ≡ true → decode y ≡ Some (guess y)
unfolding decode
fitting y e f = ap (λ (b : Bool). chosen b (guess y)) (and_from (makes_sense (guess y)) (same (encode (guess y)) y) e f)

pub decode-encode : (r : Record) → Whole r → makes_sense r ≡ true → decode (encode r) ≡ Some r
decode-encode r w s =
    let g : guess (encode r) ≡ r = guess-encode r w in
    fitting (encode r) (ap makes_sense g ∙ s) (ap (λ (x : Record). same (encode x) (encode r)) g ∙ same_refl (encode r)) ∙ ap (λ (x : Record). Some x) g

-- what a block holds encodes to it, and makes sense
pub record Held (y : List ℕ) (r : Record) : Type 0 where
  pub bytes : encode r ≡ y
  pub sense : makes_sense r ≡ true

held-step : (b : Bool) (y : List ℕ) (g r : Record) → (makes_sense g && same (encode g) y) ≡ b → chosen b g ≡ Some r → Held y r
held-step true y g r e q =
    let s : g ≡ r = cc in
    let p = and_parts (makes_sense g) (same (encode g) y) e in
    record { bytes = ap encode (sym s) ∙ same-eq (encode g) y p.1; sense = ap makes_sense (sym s) ∙ p.0 }
held-step false y g r e q = absurd (let z : ◌≡◌ {A = ℕ} 0 1 = cc in omega arith)

pub decode-held : (y : List ℕ) (r : Record) → decode y ≡ Some r → Held y r
unfolding decode
decode-held y r e = held-step (makes_sense (guess y) && same (encode (guess y)) y) y (guess y) r refl e

pub sense-is : (r : Record) → r.name.size ≤ 32 → is_name (name_of r.name) ≡ true → makes_sense r ≡ eqb (tally (has r.blocks.bits) 2048) (needed r.size)
unfolding makes_sense
sense-is r h e =
    ap (λ (b : Bool). b && (is_name (name_of r.name) && eqb (tally (has r.blocks.bits) 2048) (needed r.size))) (le-leb r.name.size 32 h)
    ∙ ap (λ (b : Bool). b && eqb (tally (has r.blocks.bits) 2048) (needed r.size)) e

pub sense-long : (r : Record) → 32 < r.name.size → makes_sense r ≡ false
unfolding makes_sense
sense-long r h = and_left (leb r.name.size 32) _ (lt-leb r.name.size 32 h)

pub sense-nameless : (r : Record) → is_name (name_of r.name) ≡ false → makes_sense r ≡ false
unfolding makes_sense
sense-nameless r e = and_right (leb r.name.size 32) _ (and_left (is_name (name_of r.name)) _ e)

pub fresh : decode (replicate 512 0) ≡ None
unfolding guess
fresh = senseless (replicate 512 0) (sense-nameless (guess (replicate 512 0)) (name-short [] (omega arith)))
