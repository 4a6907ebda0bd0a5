-- A message of another place.
use Rattle.std.proofs.Common.{◌≡◌, ℕ, ◌+◌, ◌/◌, ◌%◌, ◌^◌, ◌<◌, Bool, true, false, ◌⊎◌, List, [], ◌∷◌, ◌++◌, length, get_or, take, drop, Some, sym, refl, ap, ◌∙◌, inl, inr, arith}
use borrow.Author.Tests.{both_ways}
use Rattle.std.proofs.lemmas.List.{drop_at, length-append, take_at}
use Rattle.wire.specs.declared.fault.Fault.TheVariants.{Tag}
use Rattle.hmac.specs.Hmac.{HMAC}
use Rattle.sha256.specs.Message.{Bytes64}
use Rattle.seal.specs.declared.secret.Secret.{Secret}
use Rattle.seal.specs.Frames.{body, frame, tag, tag_mark, tag_text}
use Rattle.seal.specs.declared.secret.Direction.{Direction}
use Rattle.seal.specs.declared.secret.Direction.TheVariants.{There, Back}
use Rattle.seal.proofs.Opened.{length-tag}
use Rattle.stream.specs.Streams.{feed, got, same, start}
use Rattle.stream.specs.Promises.{Collision, Forged, Moved, Place, SamePlace, sealed_from}
use Rattle.stream.proofs.Feeds.{same_refl, same_true}
use Rattle.stream.proofs.Undamages.{misplaced, whole_of}

-- a number by its eight bytes
number-64 : (n k : ℕ) → n < 2 ^ 64 → k < 2 ^ 64 → Bytes64 n ≡ Bytes64 k → n ≡ k
number-64 n k ln lk e =
    let b : (i : ℕ) → get_or (Bytes64 n) i 0 ≡ get_or (Bytes64 k) i 0 = λ i. ap (λ (v : List ℕ). get_or v i 0) e in
    let a0 : n / 72057594037927936 % 256 ≡ k / 72057594037927936 % 256 = b 0 in
    let a1 : n / 281474976710656 % 256 ≡ k / 281474976710656 % 256 = b 1 in
    let a2 : n / 1099511627776 % 256 ≡ k / 1099511627776 % 256 = b 2 in
    let a3 : n / 4294967296 % 256 ≡ k / 4294967296 % 256 = b 3 in
    let a4 : n / 16777216 % 256 ≡ k / 16777216 % 256 = b 4 in
    let a5 : n / 65536 % 256 ≡ k / 65536 % 256 = b 5 in
    let a6 : n / 256 % 256 ≡ k / 256 % 256 = b 6 in
    let a7 : n % 256 ≡ k % 256 = b 7 in
    let c0 : n / 72057594037927936 ≡ k / 72057594037927936 = top n k ln lk a0 in
    let c1 : n / 281474976710656 ≡ k / 281474976710656 = next-1 n k c0 a1 in
    let c2 : n / 1099511627776 ≡ k / 1099511627776 = next-2 n k c1 a2 in
    let c3 : n / 4294967296 ≡ k / 4294967296 = next-3 n k c2 a3 in
    let c4 : n / 16777216 ≡ k / 16777216 = next-4 n k c3 a4 in
    let c5 : n / 65536 ≡ k / 65536 = next-5 n k c4 a5 in
    let c6 : n / 256 ≡ k / 256 = next-6 n k c5 a6 in next-7 n k c6 a7
  where
    top : (x y : ℕ) → x < 2 ^ 64 → y < 2 ^ 64 → x / 72057594037927936 % 256 ≡ y / 72057594037927936 % 256 → x / 72057594037927936 ≡ y / 72057594037927936
    top x y lx ly h = omega arith

    next-1 : (x y : ℕ) → x / 72057594037927936 ≡ y / 72057594037927936 → x / 281474976710656 % 256 ≡ y / 281474976710656 % 256 → x / 281474976710656 ≡ y / 281474976710656
    next-1 x y h g = omega arith

    next-2 : (x y : ℕ) → x / 281474976710656 ≡ y / 281474976710656 → x / 1099511627776 % 256 ≡ y / 1099511627776 % 256 → x / 1099511627776 ≡ y / 1099511627776
    next-2 x y h g = omega arith

    next-3 : (x y : ℕ) → x / 1099511627776 ≡ y / 1099511627776 → x / 4294967296 % 256 ≡ y / 4294967296 % 256 → x / 4294967296 ≡ y / 4294967296
    next-3 x y h g = omega arith

    next-4 : (x y : ℕ) → x / 4294967296 ≡ y / 4294967296 → x / 16777216 % 256 ≡ y / 16777216 % 256 → x / 16777216 ≡ y / 16777216
    next-4 x y h g = omega arith

    next-5 : (x y : ℕ) → x / 16777216 ≡ y / 16777216 → x / 65536 % 256 ≡ y / 65536 % 256 → x / 65536 ≡ y / 65536
    next-5 x y h g = omega arith

    next-6 : (x y : ℕ) → x / 65536 ≡ y / 65536 → x / 256 % 256 ≡ y / 256 % 256 → x / 256 ≡ y / 256
    next-6 x y h g = omega arith

    next-7 : (x y : ℕ) → x / 256 ≡ y / 256 → x % 256 ≡ y % 256 → x ≡ y
    next-7 x y h g = omega arith

-- lists that agree, by a part of known length
front : (a b c d : List ℕ) (n : ℕ) → length a ≡ n → length c ≡ n → a ++ b ≡ c ++ d → a ≡ c
front a b c d n la lc e = sym (take_at a b n la) ∙ ap (take n) e ∙ take_at c d n lc

rest : (a b c d : List ℕ) (n : ℕ) → length a ≡ n → length c ≡ n → a ++ b ≡ c ++ d → b ≡ d
rest a b c d n la lc e = sym (drop_at a b n la) ∙ ap (drop n) e ∙ drop_at c d n lc

same-mark : (a b : Direction) → tag_mark a ≡ tag_mark b → a ≡ b
same-mark There There e = refl
same-mark There Back e = absurd (omega arith)
same-mark Back There e = absurd (omega arith)
same-mark Back Back e = refl

-- what a tag is made of tells its place
text-place : (s v : Secret) (n k : ℕ) (a b : List ℕ) → Place s n → Place v k → tag_text s n a ≡ tag_text v k b → SamePlace s v n k
text-place s v n k a b p q e =
    let em : tag_mark s.direction ≡ tag_mark v.direction = ap (λ (x : List ℕ). get_or x 0 0) e in
    let e1 : (s.client ++ s.server) ++ (Bytes64 n ++ a) ≡ (v.client ++ v.server) ++ (Bytes64 k ++ b) = ap (drop 1) e in
    let ls : length (s.client ++ s.server) ≡ 64 = length-append s.client s.server ∙ omega (arith, p.client, p.server) in
    let lv : length (v.client ++ v.server) ≡ 64 = length-append v.client v.server ∙ omega (arith, q.client, q.server) in
    let e2 : s.client ++ s.server ≡ v.client ++ v.server = front (s.client ++ s.server) (Bytes64 n ++ a) (v.client ++ v.server) (Bytes64 k ++ b) 64 ls lv e1 in
    let e3 : Bytes64 n ++ a ≡ Bytes64 k ++ b = rest (s.client ++ s.server) (Bytes64 n ++ a) (v.client ++ v.server) (Bytes64 k ++ b) 64 ls lv e1 in
    record {
      direction = same-mark s.direction v.direction em;
      client = front s.client s.server v.client v.server 32 p.client q.client e2;
      server = rest s.client s.server v.client v.server 32 p.client q.client e2;
      number = number-64 n k p.number q.number (front (Bytes64 n) a (Bytes64 k) b 8 refl refl e3);
    }

tag-hmac : (s : Secret) (n : ℕ) (b : List ℕ) → tag s n b ≡ take 16 (HMAC s.key (tag_text s n b))
unfolding tag
tag-hmac s n b = refl

-- two messages of different places that are the same bytes
pub collides : (s v : Secret) (n k : ℕ) (x y : List ℕ) → Place s n → Place v k → s.key ≡ v.key → (SamePlace s v n k → ⊥) → frame s n x ≡ frame v k y
    → Collision s.key
collides s v n k x y p q ek ne e =
    let a : List ℕ = body s n x in
    let b : List ℕ = body v k y in
    let la : length (frame s n x) ≡ length a + 16 = length-append a (tag s n a) ∙ ap (λ (z : ℕ). length a + z) (length-tag s n a) in
    let lb : length (frame v k y) ≡ length b + 16 = length-append b (tag v k b) ∙ ap (λ (z : ℕ). length b + z) (length-tag v k b) in
    let lf : length (frame s n x) ≡ length (frame v k y) = ap length e in
    let l : length b ≡ length a = omega arith in
    let et : tag s n a ≡ tag v k b = rest a (tag s n a) b (tag v k b) (length a) refl l e in
    record {
      one = tag_text s n a;
      other = tag_text v k b;
      differ = λ d. ne (text-place s v n k a b p q d);
      tags = sym (tag-hmac s n a) ∙ et ∙ tag-hmac v k b ∙ ap (λ (z : List ℕ). take 16 (HMAC z (tag_text v k b))) (sym ek);
    }

pub moved : Moved
moved s v known first [] k y ms p q ly ek ne =
    by (misplaced s known first [] (frame v k y) ms (omega (arith, p.number)) (whole_of v k y ly) (λ x rest e f. absurd cc))
  where
    by : (feed s known start (sealed_from s 0 first ++ frame v k y) ≡ got (length first) [] first (Some Tag)) ⊎ Forged s (first ++ []) (sealed_from s 0 first ++ frame v k y)
        → (feed s known start (sealed_from s 0 first ++ frame v k y) ≡ got (length first) [] first (Some Tag)) ⊎ (Forged s (first ++ []) (sealed_from s 0 first ++ frame v k y) ⊎ Collision s.key)
    by (inl t) = inl t
    by (inr f) = inr (inl f)
moved s v known first (x ∷ later) k y ms p q ly ek ne = at (same (frame s (length first) x) (frame v k y)) refl
  where
    by : (feed s known start (sealed_from s 0 first ++ frame v k y) ≡ got (length first) [] first (Some Tag)) ⊎ Forged s (first ++ x ∷ later) (sealed_from s 0 first ++ frame v k y)
        → (feed s known start (sealed_from s 0 first ++ frame v k y) ≡ got (length first) [] first (Some Tag)) ⊎ (Forged s (first ++ x ∷ later) (sealed_from s 0 first ++ frame v k y) ⊎ Collision s.key)
    by (inl t) = inl t
    by (inr f) = inr (inl f)

    at : (b : Bool) → same (frame s (length first) x) (frame v k y) ≡ b
        → (feed s known start (sealed_from s 0 first ++ frame v k y) ≡ got (length first) [] first (Some Tag)) ⊎ (Forged s (first ++ x ∷ later) (sealed_from s 0 first ++ frame v k y) ⊎ Collision s.key)
    at true e = inr (inr (collides s v (length first) k x y p q ek ne (same_true (frame s (length first) x) (frame v k y) e)))
    at false e =
        by
        (misplaced s known first (x ∷ later) (frame v k y) ms (omega (arith, p.number)) (whole_of v k y ly)
        (λ z r ez f.
        let ex : x ≡ z = cc in
        let ef : frame s (length first) x ≡ frame v k y = ap (frame s (length first)) ex ∙ sym f in
        both_ways (same (frame s (length first) x) (frame v k y)) e (ap (λ (u : List ℕ). same u (frame v k y)) ef ∙ same_refl (frame v k y))))
