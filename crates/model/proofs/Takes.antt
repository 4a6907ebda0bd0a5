-- One message that arrives for one channel: no fault, and how much is then sent. Assumes nothing.
use Rattle.std.proofs.Common.{◌≡◌, ℕ, suc, ◌+◌, ◌-◌, ◌≤◌, Bool, true, false, cond, ltb, List, [], ◌∷◌, ◌++◌, length, Some, None, Ok, Err, Option, sym, refl, ap, ◌∙◌, subst, inl, inr, arith}
use Rattle.std.proofs.lemmas.List.{length-append}
use Rattle.std.proofs.lemmas.Bool.{true≢false, cond-true, cond-false, le-ltb}
use Rattle.model.specs.Messages.{Rules, Fair, Request, Run, Input, OutputCredit, Eof, Close, Reply, Runs, Output, InputCredit, Exit, OutOfTurn, Uncountable, BeyondWindow, parts, ready, is_some}
use Rattle.model.specs.Client.{ClientChannel, Phase, Asked, Running, Refused, Closed, runs, inputs, requests, goes, eof_now, close_now, hear, hear_in, hear_asked, answered, got_more, may_more, told_exit}
use Rattle.model.specs.Server.{ServerChannel, outputs, exit_reply, replies, goes_back, exit_now, hear_at, hear_kept, came_in, may_send, no_more, forgot}
use Rattle.model.proofs.Flow.{bytes, Flow, flow-count, flow-open, flow-said, ready-length, parts-few}
use Rattle.model.proofs.Local.{cells_in, cells_out, credits_up, credits_back, has_close, Begun, Answered, eofs, Fresh, AloneIn, InPhase, Pair}
use Rattle.model.proofs.Still.{requests-none, replies-none}

length-inputs : (ps : List (List ℕ)) → length (inputs ps) ≡ length ps
unfolding inputs
length-inputs [] = refl
length-inputs (p ∷ ps) = ap suc (length-inputs ps)

length-outputs : (ps : List (List ℕ)) → length (outputs ps) ≡ length ps
unfolding outputs
length-outputs [] = refl
length-outputs (p ∷ ps) = ap suc (length-outputs ps)

one-or-none : {A : Type 0} (b : Bool) (a : A) → length (cond b (a ∷ []) []) ≤ 1
one-or-none true a = omega arith
one-or-none false a = omega arith

-- a channel sends at most a message for each byte, eof and close
pub requests-few : (r : Rules) (x : ClientChannel) → length (requests r x) ≤ length (goes x) + 2
requests-few r x = go (runs x.phase)
  where
    ps : List Request
    ps = inputs (parts (length (goes x)) r.part (goes x))

    go : (b : Bool) → length (cond b (ps ++ (cond (eof_now x) (Eof ∷ []) [] ++ cond (close_now x) (Close ∷ []) [])) []) ≤ length (goes x) + 2
    go true =
        let a = length-append ps (cond (eof_now x) (Eof ∷ []) [] ++ cond (close_now x) (Close ∷ []) []) in
        let b = length-append (cond (eof_now x) (Eof ∷ []) []) (cond (close_now x) (Close ∷ []) []) in
        let c = one-or-none (eof_now x) Eof in
        let d = one-or-none (close_now x) Close in
        let e = length-inputs (parts (length (goes x)) r.part (goes x)) in
        let f = parts-few (length (goes x)) r.part (goes x) in
        omega arith
    go false = omega arith

exit-few : (b : Bool) (o : Option ℕ) → length (exit_reply b o) ≤ 1
exit-few b None = omega arith
exit-few true (Some n) = omega arith
exit-few false (Some n) = omega arith

pub replies-few : {S : Type 0} (r : Rules) (f : ServerChannel S) → length (replies r f) ≤ length (goes_back f) + 1
replies-few {S} r f = go f.forgotten
  where
    ps : List Reply
    ps = outputs (parts (length (goes_back f)) r.part (goes_back f))

    go : (b : Bool) → length (cond b [] (ps ++ exit_reply (exit_now f) f.exit)) ≤ length (goes_back f) + 1
    go true = omega arith
    go false =
        let a = length-append ps (exit_reply (exit_now f) f.exit) in
        let b = exit-few (exit_now f) f.exit in
        let e = length-outputs (parts (length (goes_back f)) r.part (goes_back f)) in
        let g = parts-few (length (goes_back f)) r.part (goes_back f) in
        omega arith

-- where nothing may go, at most n do when n more may
pub ready-grow : (all : List ℕ) (sent may n : ℕ) → ready all sent may ≡ [] → length (ready all sent (may + n)) ≤ n
ready-grow all sent may n e = let a = ready-length all sent may in let b = ready-length all sent (may + n) in let c = ap length e in omega arith

pub record Hears (r : Rules) (m : Reply) (x : ClientChannel) : Type 0 where
  pub new : ClientChannel
  pub is : hear r m (Some x) ≡ Ok new
  pub number : new.number ≡ x.number
  pub few : length (requests r new) ≤ r.window + 2

not_some : (o : Option ℕ) → o ≡ None → is_some o ≡ false
not_some o e = ap is_some e

hears-asked : (r : Rules) (m : Reply) (x : ClientChannel) → Fresh x → x.phase ≡ Asked → (b : Bool) → m ≡ Runs b → Hears r m x
hears-asked r m x fresh q b e =
    record {
      new = answered b x;
      is = ap (λ p. hear_in r p m x) q ∙ ap (λ k. hear_asked k x) e;
      number = refl;
      few = let y = requests-few r (answered b x) in let g = ready-length x.input x.sent x.may in let k = fresh.may in omega arith;
    }

pub hears-alone : (r : Rules) (x : ClientChannel) (us : List Request) (m : Reply) (ds : List Reply) → Fresh x → AloneIn x.phase x us (m ∷ ds) → Hears r m x
hears-alone r x us m ds fresh h = go x.phase refl h
  where
    go : (q : Phase) → x.phase ≡ q → AloneIn q x us (m ∷ ds) → Hears r m x
    go Asked q (inl p) = absurd (let z = p.1 in let y : ◌≡◌ {A = ℕ} 0 1 = cc in omega arith)
    go Asked q (inr p) = hears-asked r m x fresh q false (let z = p.1 in cc)
    go Running q p = absurd p
    go Refused q p = absurd (let z = p.1 in let y : ◌≡◌ {A = ℕ} 0 1 = cc in omega arith)
    go Closed q p = absurd p

module _ {S : Type 0} (r : Rules) (fair : Fair r) where
  hears-running : (x : ClientChannel) (f : ServerChannel S) (us : List Request) (m : Reply) (ds : List Reply) → Pair r true true x f us (m ∷ ds) → requests r x ≡ [] → x.phase ≡ Running → Answered (m ∷ ds) → Hears r m x
  unfolding Answered cells_out credits_back bytes
  hears-running x f us (Runs b) ds h e q a = absurd a
  hears-running x f us (Output bs) ds h e q a =
      let o = flow-open h.output in
      let n = flow-count h.output in
      let l = length-append bs (bytes (cells_out ds)) in
      let w = h.out_window in
      let z = requests-none r x (ap runs q) e in
      record {
        new = got_more bs x;
        is = ap (λ p. hear_in r p (Output bs) x) q ∙ cond-false (is_some x.exit) (Err OutOfTurn) (cond (ltb (x.taken + r.window) (length x.got + length bs)) (Err BeyondWindow) (Ok (got_more bs x))) (not_some x.exit o)
            ∙ cond-false (ltb (x.taken + r.window) (length x.got + length bs)) (Err BeyondWindow) (Ok (got_more bs x)) (le-ltb (x.taken + r.window) (length x.got + length bs) (let w1 = w.within in let w2 = w.sent in omega arith));
        number = refl;
        few = let y = requests-few r (got_more bs x) in let g = ap length z.0 in omega arith;
      }
  hears-running x f us (InputCredit n) ds h e q a =
      let c = flow-count h.input in
      let w = h.in_window in
      let z = requests-none r x (ap runs q) e in
      record {
        new = may_more n x;
        is = ap (λ p. hear_in r p (InputCredit n) x) q ∙ cond-false (ltb r.counts (x.may - x.sent + n)) (Err Uncountable) (Ok (may_more n x)) (le-ltb r.counts (x.may - x.sent + n) (let w1 = w.within in let w2 = w.sent in let w3 = w.taken in let k = fair.counts in omega arith));
        number = refl;
        few = let y = requests-few r (may_more n x) in let g = ready-grow x.input x.sent x.may n z.0 in let w1 = w.within in let w2 = w.sent in let w3 = w.taken in omega arith;
      }
  hears-running x f us (Exit s) ds h e q a =
      let o = flow-open h.output in
      let z = requests-none r x (ap runs q) e in
      record {
        new = told_exit s x;
        is = ap (λ p. hear_in r p (Exit s) x) q ∙ cond-false (is_some x.exit) (Err OutOfTurn) (Ok (told_exit s x)) (not_some x.exit o);
        number = refl;
        few = let y = requests-few r (told_exit s x) in let g = ap length z.0 in omega arith;
      }

  -- no message that arrives for a channel is a fault, and little is sent for it
  pub hears-both : (x : ClientChannel) (f : ServerChannel S) (us : List Request) (m : Reply) (ds : List Reply) → Pair r true true x f us (m ∷ ds) → requests r x ≡ [] → Hears r m x
  hears-both x f us m ds h e = go x.phase refl h.phase
    where
      go : (q : Phase) → x.phase ≡ q → InPhase q true x f us (m ∷ ds) → Hears r m x
      go Asked q p = hears-asked r m x p.fresh q true (let z = p.answer in cc)
      go Running q p = hears-running x f us m ds h e q p.answered
      go Refused q p = absurd p
      go Closed q p = absurd (let z = p.none-back in let y : ◌≡◌ {A = ℕ} 0 1 = cc in omega arith)

-- how many messages go back for one that came
abbrev pub room : Rules → Request → ℕ
room r (Run k) = 2
room r (Input bs) = 0
room r (OutputCredit n) = r.window + 1
room r Eof = 0
room r Close = 0

pub record Takes {S : Type 0} (r : Rules) (m : Request) (f : ServerChannel S) : Type 0 where
  pub new : ServerChannel S
  pub is : hear_at r m f ≡ Ok new
  pub number : new.number ≡ f.number
  pub few : length (replies r new) ≤ room r m

none-few : (r : Rules) (m : Request) (ms : List Reply) → ms ≡ [] → length ms ≤ room r m
none-few r m ms e = let z = ap length e in omega arith

eof-open : (b : Bool) → eofs b ≡ None → b ≡ false
eof-open true e = absurd (let z : ◌≡◌ {A = ℕ} 0 1 = cc in omega arith)
eof-open false e = refl

module _ {S : Type 0} (r : Rules) (fair : Fair r) where
  -- whoever closes was told the exit
  said-closed : (x : ClientChannel) (f : ServerChannel S) (us : List Request) (ds : List Reply) → Pair r true true x f us ds → has_close us ≡ true → f.said ≡ true
  unfolding has_close
  said-closed x f us ds h c = go x.phase h.phase
    where
      some : (o : Option ℕ) → x.exit ≡ o → is_some o ≡ true → f.said ≡ true
      some None e i = absurd (true≢false (sym i))
      some (Some n) e i = (flow-said n (subst (λ (o : Option ℕ). Flow f.wrote f.sent f.exit f.said (cells_out ds) x.got o) e h.output)).0

      go : (q : Phase) → InPhase q true x f us ds → f.said ≡ true
      go Asked p = absurd (true≢false (sym c ∙ ap has_close p.none-there))
      go Running p = absurd (true≢false (sym c ∙ p.open-yet))
      go Refused p = absurd p
      go Closed p = some x.exit refl p.told

  takes-kept : (x : ClientChannel) (f : ServerChannel S) (m : Request) (us : List Request) (ds : List Reply) → Pair r true true x f (m ∷ us) ds → replies r f ≡ [] → f.forgotten ≡ false → Takes r m f
  unfolding Begun cells_in credits_up bytes has_close
  takes-kept x f (Run k) us ds h e q = absurd h.begun
  takes-kept x f (Input bs) us ds h e q =
      let o = eof-open f.eof (flow-open h.input) in
      let n = flow-count h.input in
      let l = length-append bs (bytes (cells_in us)) in
      let w = h.in_window in
      record {
        new = came_in bs f;
        is = cond-false f.forgotten (Ok f) (hear_kept r (Input bs) f) q ∙ cond-false f.eof (Err OutOfTurn) (cond (ltb (f.read + r.window) (length f.input + length bs)) (Err BeyondWindow) (Ok (came_in bs f))) o
            ∙ cond-false (ltb (f.read + r.window) (length f.input + length bs)) (Err BeyondWindow) (Ok (came_in bs f)) (le-ltb (f.read + r.window) (length f.input + length bs) (let w1 = w.within in let w2 = w.sent in omega arith));
        number = refl;
        few = none-few r (Input bs) (replies r f) e;
      }
  takes-kept x f (OutputCredit n) us ds h e q =
      let c = flow-count h.output in
      let w = h.out_window in
      let z = replies-none r f q e in
      record {
        new = may_send n f;
        is = cond-false f.forgotten (Ok f) (hear_kept r (OutputCredit n) f) q ∙ cond-false (ltb r.counts (f.may - f.sent + n)) (Err Uncountable) (Ok (may_send n f)) (le-ltb r.counts (f.may - f.sent + n) (let w1 = w.within in let w2 = w.sent in let w3 = w.taken in let k = fair.counts in omega arith));
        number = refl;
        few = let y = replies-few r (may_send n f) in let g = ready-grow f.wrote f.sent f.may n z.0 in let w1 = w.within in let w2 = w.sent in let w3 = w.taken in omega arith;
      }
  takes-kept x f Eof us ds h e q =
      let o = eof-open f.eof (flow-open h.input) in
      record { new = no_more f; is = cond-false f.forgotten (Ok f) (hear_kept r Eof f) q ∙ cond-false f.eof (Err OutOfTurn) (Ok (no_more f)) o; number = refl; few = none-few r Eof (replies r f) e }
  takes-kept x f Close us ds h e q =
      record { new = forgot f; is = cond-false f.forgotten (Ok f) (hear_kept r Close f) q ∙ cond-true f.said (Ok (forgot f)) (Err OutOfTurn) (said-closed x f (Close ∷ us) ds h refl); number = refl; few = omega arith }

  pub takes : (x : ClientChannel) (f : ServerChannel S) (m : Request) (us : List Request) (ds : List Reply) → Pair r true true x f (m ∷ us) ds → replies r f ≡ [] → Takes r m f
  takes x f m us ds h e = go f.forgotten refl
    where
      go : (b : Bool) → f.forgotten ≡ b → Takes r m f
      go true q = record { new = f; is = cond-true f.forgotten (Ok f) (hear_kept r m f) q; number = refl; few = none-few r m (replies r f) e }
      go false q = takes-kept x f m us ds h e q
