-- A message sealed and opened in place.
use Rattle.std.proofs.Common.{◌≡◌, ℕ, ◌+◌, ◌-◌, ◌≤◌, List, ◌∷◌, ◌++◌, length, get_or, take, drop, Some, sym, ap, ◌∙◌, subst, arith}
use Rattle.std.proofs.lemmas.Grind.{common_steps}
use Rattle.std.proofs.lemmas.List.FromFn.{length-map-range_with_len}
use Rattle.std.proofs.lemmas.List.{append_assoc, drop-append-le, drop_at, drop-drop, length-append, length-drop, length-take-le, take-append-drop, take_at}
use lib.Bits.{bit_xor}
use Rattle.chacha20.specs.Cipher.{ChaCha20, Stream}
use Rattle.hmac.specs.Hmac.{HMAC}
use Rattle.sha256.specs.Message.{Bytes64}
use Rattle.hmac.specs.Calls.{Takes}
use Rattle.seal.specs.declared.secret.Secret.{Secret}
use Rattle.seal.specs.Frames.{body, bytes16, frame, opened, tag, tag_mark, tag_text, turned, way_key}
use Rattle.seal.specs.Ways.{Stands, next_of}
use Rattle.seal.specs.declared.way.Way.{Way}

pub length-turned : (s : Secret) (n : ℕ) (text : List ℕ) → length (turned s n text) ≡ length text
unfolding turned ChaCha20
length-turned s n text =
    length-map-range_with_len (λ i. bit_xor (get_or text i 0) (Stream (way_key s) 0 (0 ∷ 0 ∷ 0 ∷ 0 ∷ Bytes64 n) i)) 0 (length text)

-- the first 16 bytes of a tag
pub tag_is : (s : Secret) (n : ℕ) (b c t out : List ℕ) → b ≡ c → out ≡ HMAC s.key (tag_text s n b) → t ≡ take 16 out → t ≡ tag s n c
unfolding tag
tag_is s n b c t out eb eo et = et ∙ ap (take 16) (eo ∙ ap (λ (v : List ℕ). HMAC s.key (tag_text s n v)) eb)

-- length, encrypted inside and tag, put side by side
pub sealed-is : (s : Secret) (n size k : ℕ) (old mid1 mid2 new head c bd out tg : List ℕ) → head ≡ bytes16 size → k ≡ size
    → size + 18 ≤ length old
    → mid1 ≡ take 0 old ++ (head ++ drop (0 + length head) old)
    → c ≡ turned s n (take k (drop 2 mid1))
    → mid2 ≡ take 2 mid1 ++ (c ++ drop k (drop 2 mid1))
    → bd ≡ take (2 + size) mid2
    → out ≡ HMAC s.key (tag_text s n bd)
    → tg ≡ take 16 out
    → length out ≡ 32
    → new ≡ take (2 + size) mid2 ++ (tg ++ drop (2 + size + length tg) mid2)
    → new ≡ frame s n (take size (drop 2 old)) ++ drop (size + 18) old
sealed-is s n size k old mid1 mid2 new head c bd out tg eh ek ls em1 ec em2 eb eo et lo en =
    let x : List ℕ = take size (drop 2 old) in
    let d : List ℕ = drop size (drop 2 old) in
    let h : List ℕ = bytes16 size in
    let lx : length x ≡ size = length-take-le size (drop 2 old) (omega (arith, length-drop 2 old)) in
    let f1 : mid1 ≡ h ++ drop 2 old = em1 ∙ ap (λ (v : List ℕ). v ++ drop (0 + length v) old) eh in
    let fc : c ≡ turned s n x = ec ∙ (λ i. turned s n (take (ek i) (drop 2 (f1 i)))) in
    let lc : length c ≡ size = ap length fc ∙ length-turned s n x ∙ lx in
    let f2 : mid2 ≡ (h ++ c) ++ d = em2 ∙ (λ i. take 2 (f1 i) ++ (c ++ drop (ek i) (drop 2 (f1 i)))) in
    let lh : length (h ++ c) ≡ 2 + size = omega arith in
    let ft : take (2 + size) mid2 ≡ h ++ c = ap (take (2 + size)) f2 ∙ take_at (h ++ c) d (2 + size) lh in
    let fb : h ++ c ≡ body s n x = (λ i. bytes16 (sym lx i) ++ fc i) in
    let fg : tg ≡ tag s n (body s n x) = tag_is s n bd (body s n x) tg out (eb ∙ ft ∙ fb) eo et in
    let lg : length tg ≡ 16 = ap length et ∙ length-take-le 16 out (omega arith) in
    let lm : 2 + (size + 16) ≡ size + 18 = omega arith in
    let fd : drop (2 + size + length tg) mid2 ≡ drop (size + 18) old =
    (λ i. drop (2 + size + lg i) (f2 i)) ∙ sym (drop-drop 16 (2 + size) ((h ++ c) ++ d))
    ∙ ap (drop 16) (drop_at (h ++ c) d (2 + size) lh)
    ∙ drop-drop 16 size (drop 2 old)
    ∙ drop-drop (size + 16) 2 old
    ∙ ap (λ (m : ℕ). drop m old) lm in
    en ∙ (λ i. (ft ∙ fb) i ++ (fg i ++ fd i)) ∙ sym (append_assoc (body s n x) (tag s n (body s n x)) (drop (size + 18) old))

-- the next number
pub number_is : (w : Way) (s : Secret) (n number : ℕ) → Stands w s n → w.next ≡ Some number → number ≡ n
number_is w s n number h e = grind (arith, common_steps)

pub advanced : (w v : Way) (s : Secret) (n number : ℕ) → Stands w s n → w.next ≡ Some number → v.key ≡ w.key → v.mac ≡ w.mac
    → next_of v.next ≡ number + 1
    → Stands v s (n + 1)
advanced w v s n number h e ek em en =
    record {
      key = ek ∙ h.key;
      mac = subst (λ m. Takes m s.key (tag_mark s.direction ∷ (s.client ++ s.server))) (sym em) h.mac;
      next = en ∙ ap (λ (v : ℕ). v + 1) (number_is w s n number h e);
      nonces = h.nonces;
    }

-- an inside put in the place of what was encrypted
pub opened-at : (s : Secret) (n number m k : ℕ) (old new c : List ℕ) → number ≡ n → m + 18 ≡ length old → k ≡ m
    → c ≡ turned s number (take k (drop 2 old))
    → new ≡ take 2 old ++ (c ++ drop k (drop 2 old))
    → new ≡ take 2 old ++ (opened s n old ++ drop (2 + m) old)
opened-at s n number m k old new c e em ek ec en = grind (arith, common_steps)

-- a part that is written and then not changed
pub unchanged : (k : ℕ) (old part : List ℕ) → part ≡ take k (drop 2 old) → take 2 old ++ (part ++ drop k (drop 2 old)) ≡ old
unchanged k old part e =
    ap (λ (v : List ℕ). take 2 old ++ (v ++ drop k (drop 2 old))) e ∙ ap (λ (v : List ℕ). take 2 old ++ v) (take-append-drop k (drop 2 old))
    ∙ take-append-drop 2 old

-- an inside written behind the first two bytes
module _ (k size : ℕ) (old mid part written : List ℕ) (lo : 18 ≤ length old) (lk : size ≤ length (take k (drop 2 old))) (es : size ≡ length written)
    (ep : part ≡ written ++ drop size (take k (drop 2 old))) (em : mid ≡ take 2 old ++ (part ++ drop k (drop 2 old))) where
  behind : drop 2 mid ≡ written ++ drop size (drop 2 old)
  behind =
      let p : List ℕ = take k (drop 2 old) in
      let d : List ℕ = drop k (drop 2 old) in
      ap (drop 2) em ∙ drop_at (take 2 old) (part ++ d) 2 (length-take-le 2 old (omega arith))
      ∙ ap (λ (v : List ℕ). v ++ d) ep
      ∙ append_assoc written (drop size p) d
      ∙ ap (λ (v : List ℕ). written ++ v) (sym (drop-append-le size p d lk) ∙ ap (drop size) (take-append-drop k (drop 2 old)))

  pub inside-written : take size (drop 2 mid) ≡ written
  inside-written = grind (arith, common_steps)

  pub rest-written : drop (size + 18) mid ≡ drop (size + 18) old
  rest-written =
      let l : 2 + (size + 16) ≡ size + 18 = omega arith in
      ap (λ (v : ℕ). drop v mid) (sym l) ∙ sym (drop-drop (size + 16) 2 mid) ∙ ap (drop (size + 16)) behind
      ∙ sym (drop-drop 16 size (written ++ drop size (drop 2 old)))
      ∙ ap (drop 16) (drop_at written (drop size (drop 2 old)) size (sym es))
      ∙ drop-drop 16 size (drop 2 old)
      ∙ drop-drop (size + 16) 2 old
      ∙ ap (λ (v : ℕ). drop v old) l

-- lengths of what is written so
pub size-within : (size : ℕ) (part new written : List ℕ) → size ≡ length written → new ≡ written ++ drop size part → length new ≡ length part
    → size ≤ length part
size-within size part new written es e el = grind (arith, common_steps)

pub length_part : (old : List ℕ) → 18 ≤ length old → length (take (length old - 16 - 2) (drop 2 old)) ≡ length old - 18
length_part old l = grind (arith, common_steps)

pub length-mid : (k : ℕ) (old part : List ℕ) → 2 ≤ length old → length part ≡ length (take k (drop 2 old))
    → length (take 2 old ++ (part ++ drop k (drop 2 old))) ≡ length old
length-mid k old part l e =
    length-append (take 2 old) (part ++ drop k (drop 2 old))
    ∙ omega (
      arith,
      length-take-le 2 old l,
      length-append part (drop k (drop 2 old)),
      length-append (take k (drop 2 old)) (drop k (drop 2 old)),
      ap length (take-append-drop k (drop 2 old)),
      length-drop 2 old,
    )
