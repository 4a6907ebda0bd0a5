-- A channel at both sides when nothing is on the way and nothing is left to send. Assumes nothing.
use Rattle.std.proofs.Common.{◌≡◌, ℕ, ◌+◌, ◌-◌, ◌<◌, ◌≤◌, min, Bool, true, false, cond, not, ◌&&◌, eqb, ◌⊎◌, List, [], ◌++◌, length, take, Some, None, Option, sym, refl, ap, ◌∙◌, subst, inl, inr, append-nil, arith}
use Rattle.std.proofs.lemmas.List.{take_all}
use Rattle.std.proofs.lemmas.Bool.{true≢false, cases_lt, eq-eqb}
use Rattle.model.specs.Messages.{Rules, Request, Reply, is_some}
use Rattle.model.specs.Client.{ClientChannel, Phase, Asked, Running, Refused, Closed, runs, requests, goes, eof_now}
use Rattle.model.specs.Server.{ServerChannel, replies, goes_back, exit_now}
use Rattle.model.proofs.Flow.{bytes, lasts, list_of, Flow, flow-count, flow-told, flow-prefix, ready-length}
use Rattle.model.proofs.Local.{cells_in, cells_out, credits_up, credits_back, eofs, InPhase, Pair}
use Rattle.model.proofs.Still.{requests-none, replies-none}

-- a direction with nothing on the way
flow-came : (all : List ℕ) (sent : ℕ) (end : Option ℕ) (said : Bool) (got : List ℕ) (told : Option ℕ) → Flow all sent end said [] got told → (got ≡ take sent all) × (length got ≡ sent)
unfolding bytes
flow-came all sent end said got told f = (sym (append-nil got) ∙ f.kept, let c = flow-count f in omega arith)

-- an end that can be said is told
flow-end-told : (all : List ℕ) (sent : ℕ) (end : Option ℕ) (said : Bool) (got : List ℕ) (told : Option ℕ) → Flow all sent end said [] got told → (not said && is_some end) ≡ false → told ≡ end
unfolding lasts
flow-end-told all sent end said got told f h = go said end told h f.ends
  where
    go : (b : Bool) (o p : Option ℕ) → (not b && is_some o) ≡ false → list_of p ++ [] ≡ cond b (list_of o) [] → p ≡ o
    go true None None q e = refl
    go true None (Some n) q e = absurd (let z : ◌≡◌ {A = ℕ} 0 1 = cc in omega arith)
    go true (Some m) None q e = absurd (let z : ◌≡◌ {A = ℕ} 0 1 = cc in omega arith)
    go true (Some m) (Some n) q e = let z : n ≡ m = cc in ap Some z
    go false None None q e = refl
    go false None (Some n) q e = absurd (let z : ◌≡◌ {A = ℕ} 0 1 = cc in omega arith)
    go false (Some m) p q e = absurd (true≢false q)

eofs-inj : (a b : Bool) → eofs a ≡ eofs b → a ≡ b
eofs-inj true true e = refl
eofs-inj true false e = absurd (let z : ◌≡◌ {A = ℕ} 0 1 = cc in omega arith)
eofs-inj false true e = absurd (let z : ◌≡◌ {A = ℕ} 0 1 = cc in omega arith)
eofs-inj false false e = refl

unsaid-eof : (a b c : Bool) → b ≡ true → (a && (b && not c)) ≡ false → (not c && is_some (eofs a)) ≡ false
unsaid-eof true true true e h = refl
unsaid-eof true true false e h = h
unsaid-eof true false c e h = absurd (true≢false (sym e))
unsaid-eof false b true e h = refl
unsaid-eof false b false e h = refl

-- all came, or what came fills the window
abbrev pub AllOut : {S : Type 0} → ClientChannel → ServerChannel S → Type 0
AllOut x f = (x.got ≡ f.wrote) × (x.exit ≡ f.exit)

pub record SomeOut {S : Type 0} (r : Rules) (x : ClientChannel) (f : ServerChannel S) : Type 0 where
  pub running : x.phase ≡ Running
  pub full : length x.got ≡ r.window + x.taken
  pub more : length x.got < length f.wrote
  pub untold : x.exit ≡ None

module _ {S : Type 0} (r : Rules) where
  -- an exit that was told comes behind all output
  pub told-out : (x : ClientChannel) (f : ServerChannel S) (us : List Request) (ds : List Reply) (n : ℕ) → Pair r true true x f us ds → x.exit ≡ Some n → AllOut x f
  told-out x f us ds n h e =
      let o = subst (λ (q : Option ℕ). Flow f.wrote f.sent f.exit f.said (cells_out ds) x.got q) e h.output in
      let t = flow-told n o in
      (sym (append-nil x.got) ∙ ap (λ l. x.got ++ l) (sym t.1) ∙ flow-prefix o, e ∙ sym t.0)

  out-running : (x : ClientChannel) (f : ServerChannel S) → Pair r true true x f [] [] → replies r f ≡ [] → x.phase ≡ Running → f.forgotten ≡ false → AllOut x f ⊎ SomeOut r x f
  unfolding cells_out credits_up
  out-running x f h e q k = go (cases_lt f.sent (length f.wrote))
    where
      z : (goes_back f ≡ []) × ((exit_now f && is_some f.exit) ≡ false)
      z = replies-none r f k e

      o : Flow f.wrote f.sent f.exit f.said [] x.got x.exit
      o = h.output

      c : (x.got ≡ take f.sent f.wrote) × (length x.got ≡ f.sent)
      c = flow-came f.wrote f.sent f.exit f.said x.got x.exit o

      untold : (p : Option ℕ) → x.exit ≡ p → f.sent < length f.wrote → p ≡ None
      untold None i l = refl
      untold (Some n) i l = absurd (let t = told-out x f [] [] n h i in let a = ap length t.0 in let b = c.1 in omega arith)

      go : (f.sent < length f.wrote) ⊎ (length f.wrote ≤ f.sent) → AllOut x f ⊎ SomeOut r x f
      go (inl l) = inr (record {
        running = q;
        full = let a = ready-length f.wrote f.sent f.may in let b = ap length z.0 in let w = h.out_window.exact refl in let v = h.out_window.sent in let d = c.1 in omega arith;
        more = let d = c.1 in omega arith;
        untold = untold x.exit refl l;
      })
      go (inr l) =
          let w : f.sent + length (goes_back f) ≡ length f.wrote = let b = ap length z.0 in let v = o.within in omega arith in
          let s : (not f.said && is_some f.exit) ≡ false = ap (λ b. (b && not f.said) && is_some f.exit) (sym (eq-eqb (f.sent + length (goes_back f)) (length f.wrote) w)) ∙ z.1 in
          inl (c.0 ∙ take_all f.sent f.wrote l, flow-end-told f.wrote f.sent f.exit f.said x.got x.exit o s)

  -- at rest all output came, with the exit, or the client's window is full
  pub out-rest : (x : ClientChannel) (f : ServerChannel S) → Pair r true true x f [] [] → replies r f ≡ [] → AllOut x f ⊎ SomeOut r x f
  out-rest x f h e = go x.phase refl h.phase
    where
      told : (o : Option ℕ) → x.exit ≡ o → is_some o ≡ true → AllOut x f ⊎ SomeOut r x f
      told None i s = absurd (true≢false (sym s))
      told (Some n) i s = inl (told-out x f [] [] n h i)

      go : (q : Phase) → x.phase ≡ q → InPhase q true x f [] [] → AllOut x f ⊎ SomeOut r x f
      go Asked q p = absurd (let a = p.answer in let z : ◌≡◌ {A = ℕ} 0 1 = cc in omega arith)
      go Running q p = out-running x f h e q (p.kept refl)
      go Refused q p = absurd p
      go Closed q p = told x.exit refl p.told

  pub record InRest (x : ClientChannel) (f : ServerChannel S) : Type 0 where
    pub kept : f.forgotten ≡ false
    pub input : f.input ≡ take (f.read + r.window) x.input
    pub eof : length x.input ≤ f.read + r.window → f.eof ≡ x.eof
    pub read : f.read ≤ length f.input

  in-running : (x : ClientChannel) (f : ServerChannel S) → Pair r true true x f [] [] → requests r x ≡ [] → x.phase ≡ Running → f.forgotten ≡ false → InRest x f
  unfolding cells_in credits_back
  in-running x f h e q k = record {
    kept = k;
    input = go (cases_lt x.sent (length x.input));
    eof = λ l. let w : x.sent + length (goes x) ≡ length x.input = let a = small in let v = i.within in let t = m in let s = h.in_window.sent in let u = ap length z.0 in omega arith in
        eofs-inj f.eof x.eof (flow-end-told x.input x.sent (eofs x.eof) x.said f.input (eofs f.eof) i (unsaid-eof x.eof (eqb (x.sent + length (goes x)) (length x.input)) x.said (eq-eqb (x.sent + length (goes x)) (length x.input) w) z.1));
    read = h.in_window.taken;
  }
    where
      z : (goes x ≡ []) × (eof_now x ≡ false) × (Rattle.model.specs.Client.close_now x ≡ false)
      z = requests-none r x (ap runs q) e

      i : Flow x.input x.sent (eofs x.eof) x.said [] f.input (eofs f.eof)
      i = h.input

      c : (f.input ≡ take x.sent x.input) × (length f.input ≡ x.sent)
      c = flow-came x.input x.sent (eofs x.eof) x.said f.input (eofs f.eof) i

      m : x.may ≡ r.window + f.read
      m = let w = h.in_window.exact refl in omega arith

      small : min (x.may - x.sent) (length x.input - x.sent) ≡ 0
      small = sym (ready-length x.input x.sent x.may) ∙ ap length z.0

      go : (x.sent < length x.input) ⊎ (length x.input ≤ x.sent) → f.input ≡ take (f.read + r.window) x.input
      go (inl l) = c.0 ∙ ap (λ n. take n x.input) (let a = small in let s = h.in_window.sent in let t = m in omega arith)
      go (inr l) = c.0 ∙ take_all x.sent x.input l ∙ sym (take_all (f.read + r.window) x.input (let s = h.in_window.sent in let t = m in omega arith))

  -- at rest as much input came as there was room for, and eof if that was all
  pub in_rest : (x : ClientChannel) (f : ServerChannel S) → Pair r true true x f [] [] → requests r x ≡ [] → f.exit ≡ None → InRest x f
  in_rest x f h e n = go x.phase refl h.phase
    where
      told : (o : Option ℕ) → x.exit ≡ o → is_some o ≡ true → InRest x f
      told None i s = absurd (true≢false (sym s))
      told (Some k) i s = absurd (let a = (told-out x f [] [] k h i).1 in let z : ◌≡◌ {A = ℕ} 0 1 = cc in omega arith)

      go : (q : Phase) → x.phase ≡ q → InPhase q true x f [] [] → InRest x f
      go Asked q p = absurd (let a = p.answer in let z : ◌≡◌ {A = ℕ} 0 1 = cc in omega arith)
      go Running q p = in-running x f h e q (p.kept refl)
      go Refused q p = absurd p
      go Closed q p = told x.exit refl p.told
