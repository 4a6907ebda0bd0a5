-- What the messages on the way weigh, and whether the logins among them leave the server up. Assumes nothing.
use Rattle.std.proofs.Common.{◌≡◌, ℕ, suc, ◌+◌, ◌*◌, ◌<◌, ◌≤◌, Bool, true, false, cond, ◌&&◌, ltb, List, [], ◌∷◌, ◌++◌, length, Some, None, Option, refl, ap, le-mul_of_pos_right, arith}
use Rattle.std.proofs.lemmas.List.{length-append}
use Rattle.std.proofs.lemmas.Bool.{lt-ltb, and_from}
use Rattle.model.specs.Messages.{Rules, Fair, Request, Run, Input, OutputCredit, Eof, Close, Reply, ToServer, Login, Tick, For, parts}
use Rattle.model.specs.Client.{ClientChannel, labelled, inputs, requests, requests_of, goes, eof_now, close_now, runs}
use Rattle.model.specs.Server.{returned}
use Rattle.model.specs.Progress.{NoLogin, endures}
use Rattle.model.proofs.Takes.{room}

pub endures-some : (r : Rules) (n u k : ℕ) (ms : List ToServer) → endures r n (Some u) k ms ≡ true
unfolding endures
endures-some r n u k ms = refl

pub endures-tick : (r : Rules) (n : ℕ) (o : Option ℕ) (k : ℕ) (ms : List ToServer) → endures r n o k (Tick ∷ ms) ≡ endures r n o k ms
unfolding endures
endures-tick r n None k ms = refl
endures-tick r n (Some u) k ms = refl

pub endures-for : (r : Rules) (n : ℕ) (o : Option ℕ) (k t : ℕ) (m : Request) (ms : List ToServer) → endures r n o k (For t m ∷ ms) ≡ endures r n o k ms
unfolding endures
endures-for r n None k t m ms = refl
endures-for r n (Some u) k t m ms = refl

pub endures-login : (r : Rules) (n k u : ℕ) (q : List ℕ) (ms : List ToServer) → endures r n None k (Login u q ∷ ms) ≡ cond (r.accepts n u q) true (ltb (suc k) r.tries && endures r n None (suc k) ms)
unfolding endures
endures-login r n k u q ms = refl

-- where no login is on the way
pub endures-none : (r : Rules) (n : ℕ) (o : Option ℕ) (k : ℕ) (ms : List ToServer) → NoLogin ms → endures r n o k ms ≡ true
unfolding endures NoLogin
endures-none r n (Some u) k ms h = refl
endures-none r n None k [] h = refl
endures-none r n None k (Login u q ∷ ms) h = absurd h
endures-none r n None k (Tick ∷ ms) h = endures-none r n None k ms h
endures-none r n None k (For t m ∷ ms) h = endures-none r n None k ms h

-- or a right one behind them
pub endures-right : (r : Rules) (n : ℕ) (o : Option ℕ) (k u : ℕ) (q : List ℕ) (ms : List ToServer) → NoLogin ms → r.accepts n u q ≡ true → endures r n o k (ms ++ Login u q ∷ []) ≡ true
unfolding endures NoLogin
endures-right r n (Some v) k u q ms h a = refl
endures-right r n None k u q [] h a = ap (λ b. cond b true (ltb (suc k) r.tries && true)) a
endures-right r n None k u q (Login v p ∷ ms) h a = absurd h
endures-right r n None k u q (Tick ∷ ms) h a = endures-right r n None k u q ms h a
endures-right r n None k u q (For t m ∷ ms) h a = endures-right r n None k u q ms h a

-- how many logins are on the way
unfoldable pub logins : List ToServer → ℕ
logins [] = 0
logins (Login u q ∷ ms) = suc (logins ms)
logins (Tick ∷ ms) = logins ms
logins (For t m ∷ ms) = logins ms

-- or fewer than may fail
pub endures-few : (r : Rules) (n : ℕ) (o : Option ℕ) (k : ℕ) (ms : List ToServer) → k + logins ms < r.tries → endures r n o k ms ≡ true
unfolding endures logins
endures-few r n (Some u) k ms h = refl
endures-few r n None k [] h = refl
endures-few r n None k (Login u q ∷ ms) h = go (r.accepts n u q) (lt-ltb (suc k) r.tries (omega arith)) (endures-few r n None (suc k) ms (omega arith))
  where
    go : (b : Bool) → ltb (suc k) r.tries ≡ true → endures r n None (suc k) ms ≡ true → cond b true (ltb (suc k) r.tries && endures r n None (suc k) ms) ≡ true
    go true l e = refl
    go false l e = and_from (ltb (suc k) r.tries) (endures r n None (suc k) ms) l e
endures-few r n None k (Tick ∷ ms) h = endures-few r n None k ms h
endures-few r n None k (For t m ∷ ms) h = endures-few r n None k ms h

labelled-endures : (r : Rules) (n k t : ℕ) (rs : List Request) → endures r n None k (labelled t rs) ≡ true
unfolding endures labelled
labelled-endures r n k t [] = refl
labelled-endures r n k t (m ∷ rs) = labelled-endures r n k t rs

pub endures-more : (r : Rules) (n : ℕ) (o : Option ℕ) (k t : ℕ) (rs : List Request) (ms : List ToServer) → endures r n o k (ms ++ labelled t rs) ≡ endures r n o k ms
unfolding endures
endures-more r n (Some u) k t rs ms = refl
endures-more r n None k t rs [] = labelled-endures r n k t rs
endures-more r n None k t rs (Login u q ∷ ms) = ap (λ b. cond (r.accepts n u q) true (ltb (suc k) r.tries && b)) (endures-more r n None (suc k) t rs ms)
endures-more r n None k t rs (Tick ∷ ms) = endures-more r n None k t rs ms
endures-more r n None k t rs (For j m ∷ ms) = endures-more r n None k t rs ms

abbrev pub heavy : Rules → ℕ
heavy r = (r.window + 2) * (r.window + 2)

abbrev pub weight_of : Rules → Request → ℕ
weight_of r (Run k) = heavy r
weight_of r (Input bs) = 1
weight_of r (OutputCredit n) = heavy r
weight_of r Eof = 1
weight_of r Close = 1

abbrev pub weight : Rules → ToServer → ℕ
weight r (Login u q) = heavy r
weight r Tick = 1
weight r (For t m) = weight_of r m

unfoldable pub weights : Rules → List ToServer → ℕ
weights r [] = 0
weights r (m ∷ ms) = weight r m + weights r ms

pub weights-append : (r : Rules) (a b : List ToServer) → weights r (a ++ b) ≡ weights r a + weights r b
unfolding weights
weights-append r [] b = omega arith
weights-append r (m ∷ ms) b = let ih = weights-append r ms b in omega arith

square : (k : ℕ) → 0 < k → 1 ≤ k * k
square k h = let a = le-mul_of_pos_right k h in omega arith

weight-most : (r : Rules) (m : ToServer) → weight r m ≤ heavy r
weight-most r (Login u q) = omega arith
weight-most r Tick = omega arith
weight-most r (For t (Run k)) = omega arith
weight-most r (For t (Input bs)) = omega arith
weight-most r (For t (OutputCredit n)) = omega arith
weight-most r (For t Eof) = omega arith
weight-most r (For t Close) = omega arith

pub weights-most : (r : Rules) (ms : List ToServer) → weights r ms ≤ length ms * heavy r
unfolding weights
weights-most r [] = omega arith
weights-most r (m ∷ ms) = let a = weight-most r m in let ih = weights-most r ms in omega arith

-- how many messages go back for one that came
abbrev pub room_of : Rules → ToServer → ℕ
room_of r (Login u q) = 1
room_of r Tick = 0
room_of r (For t m) = room r m

-- they weigh less
pub weighs-less : (r : Rules) → Fair r → (m : ToServer) → room_of r m * (r.window + 3) < weight r m
weighs-less r fair (Login u q) = omega arith
weighs-less r fair Tick = omega arith
weighs-less r fair (For t (Run k)) = let s = square r.window fair.window in let f = fair.window in omega arith
weighs-less r fair (For t (Input bs)) = omega arith
weighs-less r fair (For t (OutputCredit n)) = omega arith
weighs-less r fair (For t Eof) = omega arith
weighs-less r fair (For t Close) = omega arith

pub room_most : (r : Rules) → Fair r → (m : ToServer) → room_of r m ≤ r.window + 1
room_most r fair (Login u q) = omega arith
room_most r fair Tick = omega arith
room_most r fair (For t (Run k)) = let f = fair.window in omega arith
room_most r fair (For t (Input bs)) = omega arith
room_most r fair (For t (OutputCredit n)) = omega arith
room_most r fair (For t Eof) = omega arith
room_most r fair (For t Close) = omega arith

weights-inputs : (r : Rules) (t : ℕ) (ps : List (List ℕ)) (rest : List Request) → weights r (labelled t (inputs ps ++ rest)) ≡ length (inputs ps) + weights r (labelled t rest)
unfolding weights labelled inputs
weights-inputs r t [] rest = omega arith
weights-inputs r t (p ∷ ps) rest = let ih = weights-inputs r t ps rest in omega arith

weights-ends : (r : Rules) (t : ℕ) (b c : Bool) → weights r (labelled t (cond b (Eof ∷ []) [] ++ cond c (Close ∷ []) [])) ≡ length (cond b (Eof ∷ []) [] ++ cond c (Close ∷ []) [])
unfolding weights labelled
weights-ends r t true true = refl
weights-ends r t true false = refl
weights-ends r t false true = refl
weights-ends r t false false = refl

-- what a channel sends by itself is light
pub weights-requests : (r : Rules) (x : ClientChannel) → weights r (requests_of r x) ≡ length (requests r x)
weights-requests r x = go (runs x.phase)
  where
    ps : List (List ℕ)
    ps = parts (length (goes x)) r.part (goes x)

    es : List Request
    es = cond (eof_now x) (Eof ∷ []) [] ++ cond (close_now x) (Close ∷ []) []

    none : weights r (labelled x.number []) ≡ 0
    none = weights-ends r x.number false false

    go : (b : Bool) → weights r (labelled x.number (cond b (inputs ps ++ es) [])) ≡ length (cond b (inputs ps ++ es) [])
    go true = let a = weights-inputs r x.number ps es in let b = weights-ends r x.number (eof_now x) (close_now x) in let c = length-append (inputs ps) es in omega arith
    go false = none

pub length-returned : (t : ℕ) (ms : List Reply) → length (returned t ms) ≡ length ms
unfolding returned
length-returned t [] = refl
length-returned t (m ∷ ms) = ap suc (length-returned t ms)
