-- One channel at what the server does: its flush, a program's turn, and the cut. Assumes nothing.
use Rattle.std.proofs.Common.{◌≡◌, ℕ, ◌+◌, Bool, true, false, cond, not, ◌&&◌, ◌||◌, eqb, List, [], ◌∷◌, ◌++◌, length, Some, None, Option, sym, refl, ap, ◌∙◌, subst, append-nil, arith}
use Rattle.std.proofs.lemmas.List.{nil_from_length}
use Rattle.std.proofs.lemmas.Bool.{true≢false}
use Rattle.std.specs.Option.{option_map}
use Rattle.model.specs.Messages.{Rules, Fair, Request, Reply, Exit, parts, is_some}
use Rattle.model.specs.Client.{ClientChannel, Phase, Asked, Running, Refused, Closed}
use Rattle.model.specs.Server.{ServerChannel, goes_back, exit_now, exit_reply, outputs, replies, sent_kept, sent_back}
use Rattle.model.proofs.Ways.{those}
use Rattle.model.proofs.Flow.{Cell, Piece, lasts, Flow, pieces, last_of, last_now, flow-send, flow-said, ready-length, parts_none, unsaid-lasts}
use Rattle.model.proofs.Local.{cells_out, credits_back, Answered, Window, InPhase, Pair, Local, cells_out-append, credits_back-append, answered-append}

-- What the flush of a channel sends, by what is known of a way.
cells-outputs : (ps : List (List ℕ)) (b : Bool) (e : Option ℕ) → cells_out (outputs ps ++ exit_reply b e) ≡ pieces ps ++ cond (is_some e && b) (last_of e) []
unfolding cells_out outputs pieces
cells-outputs [] b None = refl
cells-outputs [] true (Some n) = refl
cells-outputs [] false (Some n) = refl
cells-outputs (p ∷ ps) b e = ap (λ l. Piece p ∷ l) (cells-outputs ps b e)

credits-outputs : (ps : List (List ℕ)) (b : Bool) (e : Option ℕ) → credits_back (outputs ps ++ exit_reply b e) ≡ 0
unfolding credits_back outputs
credits-outputs [] b None = refl
credits-outputs [] true (Some n) = refl
credits-outputs [] false (Some n) = refl
credits-outputs (p ∷ ps) b e = credits-outputs ps b e

answered-outputs : (ps : List (List ℕ)) (b : Bool) (e : Option ℕ) → Answered (outputs ps ++ exit_reply b e)
unfolding Answered outputs
answered-outputs [] b None = tt
answered-outputs [] true (Some n) = refl
answered-outputs [] false (Some n) = tt
answered-outputs (p ∷ ps) b e = answered-outputs ps b e

and-swap : (a b : Bool) → (a && b) ≡ (b && a)
and-swap true true = refl
and-swap true false = refl
and-swap false true = refl
and-swap false false = refl

and_none : (a : Bool) → (a && false) ≡ false
and_none true = refl
and_none false = refl

exit-none : (b : Bool) (e : Option ℕ) → b ≡ false → exit_reply b e ≡ []
exit-none b None h = refl
exit-none b (Some n) h = ap (λ c. cond c (Exit n ∷ []) []) h

module _ {S : Type 0} where
  abbrev pub keeps : Rules → ServerChannel S → List Reply
  keeps r f = outputs (parts (length (goes_back f)) r.part (goes_back f)) ++ exit_reply (exit_now f) f.exit

  -- where the exit was said, nothing more goes
  said-none : (r : Rules) (f : ServerChannel S) → f.said ≡ true → f.sent ≡ length f.wrote → keeps r f ≡ []
  unfolding outputs
  said-none r f s e =
      let g : goes_back f ≡ [] = let z = ready-length f.wrote f.sent f.may in nil_from_length (goes_back f) (omega arith) in
      let b : exit_now f ≡ false = ap (λ c. eqb (f.sent + length (goes_back f)) (length f.wrote) && not c) s ∙ and_none (eqb (f.sent + length (goes_back f)) (length f.wrote)) in
      ap (λ l. outputs (parts (length (goes_back f)) r.part (goes_back f)) ++ l) (exit-none (exit_now f) f.exit b) ∙ append-nil (outputs (parts (length (goes_back f)) r.part (goes_back f)))
      ∙ ap (λ q. outputs (parts (length q) r.part q)) g ∙ ap outputs (parts_none 0 r.part)

  pub forgotten-still : (r : Rules) (f : ServerChannel S) → f.forgotten ≡ true → (sent_back f ≡ f) × (replies r f ≡ [])
  forgotten-still r f h = (ap (λ b. cond b f (sent_kept f)) h, ap (λ b. cond b [] (keeps r f)) h)

  pub kept-moves : (r : Rules) (f : ServerChannel S) → f.forgotten ≡ false → (sent_back f ≡ sent_kept f) × (replies r f ≡ keeps r f)
  kept-moves r f h = (ap (λ b. cond b f (sent_kept f)) h, ap (λ b. cond b [] (keeps r f)) h)

module _ {S : Type 0} (r : Rules) (fair : Fair r) (cup : Bool) (x : ClientChannel) (f : ServerChannel S) (us : List Request) (ds : List Reply) where
  -- nothing that is to be told stands behind an exit
  answered-more : (rest : List Reply) → cells_out rest ≡ cells_out ds → Flow f.wrote f.sent f.exit f.said (cells_out ds) x.got x.exit → Answered rest → (said : Bool) → f.said ≡ said → Answered (rest ++ keeps r f)
  answered-more rest c h a true s = subst (λ (l : List Reply). Answered l) (sym (ap (λ l. rest ++ l) (said-none r f s (h.whole s).0) ∙ append-nil rest)) a
  answered-more rest c h a false s =
      let l = unsaid-lasts r.part f.may fair.part (subst (λ (b : Bool). Flow f.wrote f.sent f.exit b (cells_out ds) x.got x.exit) s h) in
      answered-append rest (keeps r f) (ap lasts c ∙ l.1) a (answered-outputs (parts (length (goes_back f)) r.part (goes_back f)) (exit_now f) f.exit)

  -- who was told the exit gets nothing more
  told_none : Flow f.wrote f.sent f.exit f.said (cells_out ds) x.got x.exit → is_some x.exit ≡ true → keeps r f ≡ []
  told_none h t = go x.exit t h
    where
      go : (o : Option ℕ) → is_some o ≡ true → Flow f.wrote f.sent f.exit f.said (cells_out ds) x.got o → keeps r f ≡ []
      go None q g = absurd (true≢false (sym q))
      go (Some n) q g = let z = flow-said n g in said-none r f z.0 (g.whole z.0).0

  flushed-phase : (p : Phase) → Pair r cup true x f us ds → InPhase p true x f us ds → InPhase p true x (sent_kept f) us (ds ++ keeps r f)
  unfolding cells_out
  flushed-phase Asked h k =
      record {
        fresh = k.fresh;
        none-there = k.none-there;
        rest = k.rest ++ keeps r f;
        answer = ap (λ l. l ++ keeps r f) k.answer;
        answered = answered-more k.rest (sym (ap cells_out k.answer)) h.output k.answered f.said refl;
        kept = k.kept;
      }
  flushed-phase Running h k =
      record {
        answered = answered-more ds refl h.output k.answered f.said refl;
        told = λ t. ap (λ l. l ++ keeps r f) (k.told t) ∙ told_none h.output t;
        open-yet = k.open-yet;
        kept = k.kept;
      }
  flushed-phase Refused h k = k
  flushed-phase Closed h k = record { none-back = ap (λ l. l ++ keeps r f) k.none-back ∙ told_none h.output k.told; told = k.told; all = k.all; gone = k.gone; close = k.close }

  flush-kept : Pair r cup true x f us ds → Pair r cup true x (sent_kept f) us (ds ++ keeps r f)
  flush-kept h =
      let ps = parts (length (goes_back f)) r.part (goes_back f) in
      let z = credits-outputs ps (exit_now f) f.exit in
      let a = credits_back-append ds (keeps r f) in
      let cu : credits_back (ds ++ keeps r f) ≡ credits_back ds = omega arith in
      let w = h.out_window in
      let g = ready-length f.wrote f.sent f.may in
      let sd : (f.said || last_now f.wrote f.sent f.exit f.said f.may) ≡ (f.said || (exit_now f && is_some f.exit)) = ap (λ b. f.said || b) (and-swap (is_some f.exit) (exit_now f)) in
      record {
        command = h.command;
        input = h.input;
        output = subst (λ (b : Bool). Flow f.wrote (f.sent + length (goes_back f)) f.exit b (cells_out (ds ++ keeps r f)) x.got x.exit) sd
            (subst (λ (cs : List Cell). Flow f.wrote (f.sent + length (goes_back f)) f.exit (f.said || last_now f.wrote f.sent f.exit f.said f.may) cs x.got x.exit) (sym (cells_out-append ds (keeps r f) ∙ ap (λ l. cells_out ds ++ l) (cells-outputs ps (exit_now f) f.exit))) (flow-send r.part f.may fair.part f.said h.output));
        in_window = subst (λ (n : ℕ). Window r.window x.sent x.may n (length f.input) f.read true) (sym cu) h.in_window;
        out_window = record { within = w.within; exact = w.exact; sent = let s = w.sent in omega arith; taken = w.taken };
        begun = h.begun;
        phase = flushed-phase x.phase h h.phase;
      }

  flush-one : (b : Bool) → f.forgotten ≡ b → Pair r cup true x f us ds → Pair r cup true x (sent_back f) us (ds ++ replies r f)
  flush-one true e h =
      subst (λ (g : ServerChannel S). Pair r cup true x g us (ds ++ replies r f)) (sym (forgotten-still r f e).0) (subst (λ (l : List Reply). Pair r cup true x f us l) (sym (ap (λ l. ds ++ l) (forgotten-still r f e).1 ∙ append-nil ds)) h)
  flush-one false e h =
      subst (λ (g : ServerChannel S). Pair r cup true x g us (ds ++ replies r f)) (sym (kept-moves r f e).0) (subst (λ (l : List Reply). Pair r cup true x (sent_kept f) us (ds ++ l)) (sym (kept-moves r f e).1) (flush-kept h))

module _ {S : Type 0} (r : Rules) (fair : Fair r) (cup : Bool) where
  -- What goes by itself keeps what is known of a channel.
  pub flush-back-local : (cx : Option ClientChannel) (sx : Option (ServerChannel S)) (us : List Request) (ds : List Reply) → Local r cup true cx sx us ds → Local r cup true cx (option_map sent_back sx) us (ds ++ those (replies r) sx)
  flush-back-local None None us ds h = (h.0, append-nil ds ∙ h.1)
  flush-back-local None (Some f) us ds h = absurd h
  flush-back-local (Some x) None us ds h = subst (λ (l : List Reply). Local {S = S} r cup true (Some x) None us l) (sym (append-nil ds)) h
  flush-back-local (Some x) (Some f) us ds h = flush-one r fair cup x f us ds f.forgotten refl h
