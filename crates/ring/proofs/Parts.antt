-- Two parts written or read, as a turned list has them.
use Rattle.std.proofs.Common.{◌≡◌, ℕ, ◌+◌, ◌-◌, ◌<◌, ◌≤◌, min, ◌⊎◌, List, [], ◌++◌, length, get_or, take, drop, sym, ap, ◌∙◌, subst, ⊎_elim, arith, rules}
use borrow.Rule.Slice.PartMut.{put_mid, post_of}
use Rattle.std.proofs.lemmas.List.{length-append, length-take-le, length-drop, places, same_lists, drop_at, take_at, append_assoc, append-nil, drop-append-le, drop-drop, drop_all, take_all, take-append-drop}
use Rattle.std.proofs.lemmas.Bool.{cases_lt}
use Rattle.ring.specs.Held.{turned}
use Rattle.ring.proofs.Turned.{length-turned}

pub read-parts : (xs out : List ℕ) (h s : ℕ) → h ≤ length xs → length out ≤ length xs → s ≡ min (length out) (length xs - h) →
    put_mid s (length out - s) (take (h + s - h) (drop h xs) ++ post_of 0 (s - 0) out) (take (length out - s - 0) (drop 0 xs)) ≡ take (length out) (turned h xs)
unfolding turned
read-parts xs out h s a b e = same_lists _ _ (search (rules, places)) (λ k d l. grind (arith, places))

-- a list that is turned where its first part ends
turned-split : (p z : List ℕ) (t : ℕ) → length p ≡ t → turned t (p ++ z) ≡ z ++ p
unfolding turned
turned-split p z t e = let d = drop_at p z t e in let f = take_at p z t e in cc

written : List ℕ → List ℕ → ℕ → ℕ → List ℕ
written xs more t s = drop s more ++ drop (length more - s) (take t xs ++ (take s more ++ drop s (drop t xs)))

-- all of it fits behind t
write-straight : (xs more : List ℕ) (t : ℕ) → t + length more ≤ length xs → turned t (take t xs ++ (more ++ drop (length more) (drop t xs))) ≡ more ++ drop (length more) (turned t xs)
unfolding turned
write-straight xs more t a =
    let lp : length (take t xs) ≡ t = length-take-le t xs (omega arith) in
    let lq : length more ≤ length (drop t xs) = simp length-drop (omega arith) in
    let s1 = turned-split (take t xs) (more ++ drop (length more) (drop t xs)) t lp in
    let s2 = append_assoc more (drop (length more) (drop t xs)) (take t xs) in
    let s3 = drop-append-le (length more) (drop t xs) (take t xs) lq in
    s1 ∙ s2 ∙ ap (λ z. more ++ z) (sym s3)

-- a first part of it reaches the end, and the rest goes to the beginning
write-round : (p q b1 b2 : List ℕ) (t : ℕ) → length p ≡ t → length b1 ≡ length q → length b2 ≤ t → turned t (b2 ++ drop (length b2) (p ++ b1)) ≡ (b1 ++ b2) ++ drop (length b1 + length b2) (q ++ p)
write-round p q b1 b2 t lp lq lb =
    let m : length b2 ≤ length p = omega arith in
    let s1 = drop-append-le (length b2) p b1 m in
    let s2 = append_assoc b2 (drop (length b2) p) b1 in
    let l : length (b2 ++ drop (length b2) p) ≡ t = simp (length-append, length-drop) (omega arith) in
    let s3 = turned-split (b2 ++ drop (length b2) p) b1 t l in
    let s4 = drop-drop (length b2) (length b1) (q ++ p) in
    let s5 = drop_at q p (length b1) (sym lq) in
    let s6 = append_assoc b1 b2 (drop (length b2) p) in
    cc

write-parts : (xs more : List ℕ) (t s : ℕ) → t ≤ length xs → length more ≤ length xs → s ≡ min (length more) (length xs - t) → turned t (written xs more t s) ≡ more ++ drop (length more) (turned t xs)
unfolding turned written
write-parts xs more t s a b e =
    ⊎_elim
    (λ l. let r : t + s ≡ length xs = omega arith in
    let lp : length (take t xs) ≡ t = length-take-le t xs a in
    let lb1 : length (take s more) ≡ s = length-take-le s more (omega arith) in
    let lb2 : length (drop s more) ≡ length more - s = length-drop s more in
    let lq : length (drop t xs) ≡ length xs - t = length-drop t xs in
    let nil : drop s (drop t xs) ≡ [] = drop_all s (drop t xs) (omega arith) in
    let whole = take-append-drop s more in
    let an = append-nil (take s more) in
    let sum : length (take s more) + length (drop s more) ≡ length more = omega arith in
    let z = write-round (take t xs) (drop t xs) (take s more) (drop s more) t lp (omega arith) (omega arith) in
    cc)
    (λ l. let r : s ≡ length more = omega arith in
    let z = write-straight xs more t l in
    let d = drop_all s more (omega arith) in
    let f = take_all s more (omega arith) in
    let g : length more - s ≡ 0 = omega arith in
    cc)
    (cases_lt (length xs) (t + length more))

pub turn-again : (h l : ℕ) (xs : List ℕ) → h + l < length xs → turned l (turned h xs) ≡ turned (h + l) xs
unfolding turned
turn-again h l xs a = same_lists _ _ (search (rules, places)) (λ k d b. grind (arith, places))

pub turn-round : (h l : ℕ) (xs : List ℕ) → h ≤ length xs → l ≤ length xs → length xs ≤ h + l → turned l (turned h xs) ≡ turned (h + l - length xs) xs
unfolding turned
turn-round h l xs a e f = same_lists _ _ (search (rules, places)) (λ k d b. grind (arith, places))

-- behind the first l, which stay, what was written
pub grown : (xs ys more : List ℕ) (l : ℕ) → length ys ≡ length xs → l + length more ≤ length xs → turned l ys ≡ more ++ drop (length more) (turned l xs) → take (l + length more) ys ≡ take l xs ++ more
unfolding turned
grown xs ys more l a b e =
    same_lists _ _ (search (rules, places))
    (λ k d f. ⊎_elim
    (λ low. let i = ap (λ z. get_or z (length xs - l + k) d) e in grind (arith, places))
    (λ high. let i = ap (λ z. get_or z (k - l) d) e in grind (arith, places))
    (cases_lt k l))

-- what is left when the first n are gone
pub shrunk : (xs : List ℕ) (l n : ℕ) → n ≤ l → l ≤ length xs → take (l - n) (turned n xs) ≡ drop n (take l xs)
unfolding turned
shrunk xs l n a b = same_lists _ _ (search (rules, places)) (λ k d f. grind (arith, places))

-- the same, as the two writes leave it
pub write_done : (xs more : List ℕ) (t s : ℕ) (b1 b2 : List ℕ) → t ≤ length xs → length more ≤ length xs → s ≡ min (length more) (length xs - t) → b1 ≡ take (s - 0) (drop 0 more) → b2 ≡ take (length more - s) (drop s more) →
    turned t (b2 ++ post_of 0 (length more - s - 0) (put_mid t (t + s - t) xs b1)) ≡ more ++ drop (length more) (turned t xs)
unfolding written
write_done xs more t s b1 b2 a b e f g =
    let z = write-parts xs more t s a b e in
    let i : t + s - t ≡ s = omega arith in
    let j : length more - s - 0 ≡ length more - s = omega arith in
    let k : s - 0 ≡ s = omega arith in
    let m = take_all (length more - s) (drop s more) (simp length-drop (omega arith)) in
    cc

-- l places on from h in a ring of n stands t
abbrev pub Onward : (h l n t : ℕ) → Type 0
Onward h l n t = ((h + l < n) × (t ≡ h + l)) ⊎ ((n ≤ h + l) × (t ≡ h + l - n))

turn-to : (h l t : ℕ) (xs : List ℕ) → h ≤ length xs → l ≤ length xs → Onward h l (length xs) t → turned l (turned h xs) ≡ turned t xs
turn-to h l t xs a b o = ⊎_elim (λ s. let z = turn-again h l xs s.0 in let e = s.1 in cc) (λ s. let z = turn-round h l xs a b s.0 in let e = s.1 in cc) o

pub appended : (h l t : ℕ) (xs ys more : List ℕ) → h ≤ length xs → l + length more ≤ length xs → length ys ≡ length xs → Onward h l (length xs) t → turned t ys ≡ more ++ drop (length more) (turned t xs) →
    take (l + length more) (turned h ys) ≡ take l (turned h xs) ++ more
appended h l t xs ys more a b e o w =
    let ly = length-turned h ys in
    let lx = length-turned h xs in
    let x = turn-to h l t xs a (omega arith) o in
    let y = turn-to h l t ys (omega arith) (omega arith) (subst (λ n. Onward h l n t) (sym e) o) in
    let f : turned l (turned h ys) ≡ more ++ drop (length more) (turned l (turned h xs)) = cc in
    grown (turned h xs) (turned h ys) more l (omega arith) (omega arith) f

pub moved : (h l n t : ℕ) (xs : List ℕ) → h ≤ length xs → l ≤ length xs → n ≤ l → Onward h n (length xs) t → take (l - n) (turned t xs) ≡ drop n (take l (turned h xs))
moved h l n t xs a b e o =
    let lx = length-turned h xs in
    let x = turn-to h n t xs a (omega arith) o in
    let z = shrunk (turned h xs) l n e (omega arith) in
    cc
