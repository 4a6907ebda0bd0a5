-- After its flush a channel has nothing left that may be sent. Assumes nothing.
use Rattle.std.proofs.Common.{◌≡◌, ℕ, ◌+◌, Bool, true, false, cond, not, ◌&&◌, ◌||◌, eqb, List, [], ◌++◌, length, Some, None, Option, refl, ap, ◌∙◌, arith}
use Rattle.std.proofs.lemmas.List.{nil_from_length}
use Rattle.std.proofs.lemmas.Bool.{true≢false}
use Rattle.model.specs.Messages.{Rules, ready, parts, is_some}
use Rattle.model.specs.Client.{ClientChannel, Phase, Asked, Running, Refused, Closed, runs, goes, eof_now, close_now, inputs, requests, flushed, flushed_running}
use Rattle.model.specs.Server.{ServerChannel, goes_back, exit_now, exit_reply, outputs, replies, sent_kept, sent_back}
use Rattle.model.proofs.Flow.{ready-length, parts_none}
use Rattle.model.proofs.AtClient.{tail, idle-phase, running-phase}
use Rattle.model.proofs.AtServer.{keeps, forgotten-still, kept-moves}

-- what went is gone
pub ready-again : (all : List ℕ) (sent may : ℕ) → ready all (sent + length (ready all sent may)) may ≡ []
ready-again all sent may =
    let a = ready-length all sent may in
    let b = ready-length all (sent + length (ready all sent may)) may in
    nil_from_length (ready all (sent + length (ready all sent may)) may) (omega arith)

-- the end is not said twice
said-once : (e q s : Bool) → (e && (q && not (s || (e && (q && not s))))) ≡ false
said-once true true true = refl
said-once true true false = refl
said-once true false s = refl
said-once false q s = refl

end-once : (q s : Bool) (o : Bool) → ((q && not (s || ((q && not s) && o))) && o) ≡ false
end-once true true true = refl
end-once true true false = refl
end-once true false true = refl
end-once true false false = refl
end-once false s o = refl

none_left : (r : Rules) (g : List ℕ) (e c : Bool) → g ≡ [] → e ≡ false → c ≡ false → inputs (parts (length g) r.part g) ++ tail e c ≡ []
unfolding inputs
none_left r g e c eg ee ec = ap (λ l. inputs (parts (length l) r.part l) ++ tail e c) eg ∙ ap (λ l. inputs l ++ tail e c) (parts_none 0 r.part) ∙ ap (λ b. tail b c) ee ∙ ap (λ b. tail false b) ec

flushed-eof : (x : ClientChannel) → eof_now (flushed_running x) ≡ false
flushed-eof x =
    let g = ap length (ready-again x.input x.sent x.may) in
    let s : x.sent + length (goes x) + length (goes (flushed_running x)) ≡ x.sent + length (goes x) = omega arith in
    ap (λ n. x.eof && (eqb n (length x.input) && not (x.said || eof_now x))) s ∙ said-once x.eof (eqb (x.sent + length (goes x)) (length x.input)) x.said

idle-running : (r : Rules) (x : ClientChannel) → x.phase ≡ Running → (c : Bool) → close_now x ≡ c → requests r (flushed_running x) ≡ []
idle-running r x ph true e = (idle-phase r (flushed_running x) (ap (λ b. runs (cond b Closed x.phase)) e)).1
idle-running r x ph false e =
    (running-phase r (flushed_running x) (ap (λ b. runs (cond b Closed x.phase)) e ∙ ap runs ph)).1 ∙ none_left r (goes (flushed_running x)) (eof_now (flushed_running x)) (close_now x) (ready-again x.input x.sent x.may) (flushed-eof x) e

idle-by : (r : Rules) (x : ClientChannel) (p : Phase) → x.phase ≡ p → requests r (flushed x) ≡ []
idle-by r x Asked e = let q = idle-phase r x (ap runs e) in ap (requests r) q.0 ∙ q.1
idle-by r x Running e = ap (requests r) (running-phase r x (ap runs e)).0 ∙ idle-running r x e (close_now x) refl
idle-by r x Refused e = let q = idle-phase r x (ap runs e) in ap (requests r) q.0 ∙ q.1
idle-by r x Closed e = let q = idle-phase r x (ap runs e) in ap (requests r) q.0 ∙ q.1

pub idle-flushed : (r : Rules) (x : ClientChannel) → requests r (flushed x) ≡ []
idle-flushed r x = idle-by r x x.phase refl

exit-unless : (b : Bool) (o : Option ℕ) → (b && is_some o) ≡ false → exit_reply b o ≡ []
exit-unless b None e = refl
exit-unless true (Some n) e = absurd (true≢false e)
exit-unless false (Some n) e = refl

module _ {S : Type 0} (r : Rules) (f : ServerChannel S) where
  idle-kept : keeps r (sent_kept f) ≡ []
  unfolding outputs
  idle-kept =
      let g = ready-again f.wrote f.sent f.may in
      let l = ap length g in
      let s : f.sent + length (goes_back f) + length (goes_back (sent_kept f)) ≡ f.sent + length (goes_back f) = omega arith in
      let e : (exit_now (sent_kept f) && is_some f.exit) ≡ false = ap (λ n. (eqb n (length f.wrote) && not (f.said || (exit_now f && is_some f.exit))) && is_some f.exit) s ∙ end-once (eqb (f.sent + length (goes_back f)) (length f.wrote)) f.said (is_some f.exit) in
      ap (λ q. outputs (parts (length q) r.part q) ++ exit_reply (exit_now (sent_kept f)) f.exit) g ∙ ap (λ q. outputs q ++ exit_reply (exit_now (sent_kept f)) f.exit) (parts_none 0 r.part) ∙ exit-unless (exit_now (sent_kept f)) f.exit e

  idle-back : (b : Bool) → f.forgotten ≡ b → replies r (sent_back f) ≡ []
  idle-back true e = let q = forgotten-still r f e in ap (replies r) q.0 ∙ q.1
  idle-back false e = ap (replies r) (kept-moves r f e).0 ∙ (kept-moves r (sent_kept f) e).1 ∙ idle-kept

  pub idle-sent : replies r (sent_back f) ≡ []
  idle-sent = idle-back f.forgotten refl
