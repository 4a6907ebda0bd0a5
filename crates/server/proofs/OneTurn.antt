-- A turn of what is held is the model's turn of the channel.
use Rattle.std.proofs.Common.{◌≡◌, ℕ, ◌+◌, Bool, true, false, cond, not, ◌||◌, eqb, ltb, leb, List, [], ◌++◌, length, take, drop, sym, refl, ap, ◌∙◌, arith}
use Rattle.std.proofs.lemmas.List.{append_assoc, append-nil, length-append, length-take, drop_at}
use Rattle.std.proofs.lemmas.Bool.Decides.{nat_tests}
use Rattle.model.specs.Messages.{Programs, Does, Reads, Writes, Ends, GoesOn, real}
use Rattle.model.specs.Server as model
use Rattle.model.specs.Server.{ServerChannel, portion, doing, drained, turn_in}
use Rattle.server_channel.specs.declared.Counts.{Counts}
use Rattle.server_channel.specs.declared.Life.{Life}
use Rattle.server_channel.specs.declared.Life.TheVariants.{Running, Ended}
use Rattle.server_channel.specs.declared.Channel.{Channel}
use Rattle.server_channel.specs.Kept.{kept, goes}
use Rattle.server_channel.specs.Turns as view
use Rattle.server_channel.specs.Turns.{Turned}
use Rattle.desk.specs.View.{number_in}
use Rattle.server.specs.Stands.{Past, whole}
use Rattle.server.proofs.Flushing.{parted}

module _ {S E : Type 0} where
  abbrev pub whole_turn : Bool → Turned S E → Past S → model.Turned S E
  whole_turn up y p = model.turned y.env (whole up y.kept p) y.freed

  -- the model's turn is that of what is held, which keeps its number
  pub record Same (up : Bool) (t : ℕ) (y : model.Turned S E) (z : Turned S E) : Type 0 where
    pub past : Past S
    pub turned : y ≡ whole_turn up z past
    pub number : number_in z.kept ≡ t

  same_cond : {up : Bool} {t : ℕ} (b : Bool) {y y' : model.Turned S E} {z z' : Turned S E} → Same up t y z → Same up t y' z' → Same up t (cond b y y') (cond b z z')
  same_cond true a b = a
  same_cond false a b = b

  same_by : {up : Bool} {t : ℕ} {y y' : model.Turned S E} {z : Turned S E} → y ≡ y' → Same up t y' z → Same up t y z
  same_by e s = record { past = s.past; turned = e ∙ s.turned; number = s.number }

abbrev read_past : {S : Type 0} → List ℕ → Past S → Past S
read_past bs p = record { command = p.command; user = p.user; state = p.state; went = p.went ++ bs; gone = p.gone; sent = p.sent; may = p.may; said = p.said }

abbrev wrote-past : {S : Type 0} → List ℕ → Past S → Past S
wrote-past bs p = record { command = p.command; user = p.user; state = p.state; went = p.went; gone = p.gone ++ bs; sent = p.sent; may = p.may; said = p.said }

abbrev ended-past : {S : Type 0} → S → Past S → Past S
ended-past s p = record { command = p.command; user = p.user; state = s; went = p.went; gone = p.gone; sent = p.sent; may = p.may; said = p.said }

module _ {S E : Type 0} (a : ℕ → ℕ → List ℕ → Bool) (m : ℕ → ℕ → Bool) (p : Programs S E) (e : E) (c : Counts) (s : S) (w u : List ℕ) (q : Past S) where
  abbrev k : Channel S
  k = kept c (Running s) w u

  waits : (up : Bool) → Same up c.number (model.turned e (whole up k q) 0) (view.turned e k 0)
  waits up = record { past = q; turned = refl; number = refl }

  ends : (up : Bool) (n : ℕ) → Same up c.number (model.ends p e (whole up k q) n) (view.ends p e k n)
  ends up n = record { past = ended-past s q; turned = refl; number = refl }

  reads : (up : Bool) (n : ℕ) → Same up c.number (model.reads p e (whole up k q) (take n w)) (view.reads p e k (take n w))
  reads up n =
      let bs = take n w in
      let i : q.went ++ w ≡ (q.went ++ bs) ++ drop (length bs) w = ap (λ v. q.went ++ v) (sym (parted n w)) ∙ sym (append_assoc q.went bs (drop (length bs) w)) in
      let r : length q.went + length bs ≡ length (q.went ++ bs) = sym (length-append q.went bs) in
      let x = whole up (kept c (Running (p.next e s bs (eqb (length bs) 0))) (drop (length bs) w) u) (read_past bs q) in
      record {
        past = read_past bs q;
        turned = λ j. model.turned (p.after e s bs (eqb (length bs) 0))
            (record { number = c.number; command = q.command; user = q.user; state = p.next e s bs (eqb (length bs) 0); input = i j; read = r j; eof = c.eof; wrote = x.wrote; sent = x.sent; may = x.may; exit = x.exit; said = x.said; left = c.left; forgotten = false }) (length bs);
        number = refl;
      }

  writes : (up : Bool) (bs : List ℕ) → Same up c.number (model.writes p e (whole up k q) bs) (view.writes p up e k bs)
  writes true bs =
      let g : (q.gone ++ u) ++ bs ≡ q.gone ++ (u ++ bs) = append_assoc q.gone u bs in
      let x = whole true (kept c (Running (p.next e s [] false)) w (u ++ bs)) q in
      record {
        past = q;
        turned = λ j. model.turned (p.after e s [] false)
            (record { number = c.number; command = q.command; user = q.user; state = p.next e s [] false; input = x.input; read = x.read; eof = c.eof; wrote = g j; sent = x.sent; may = x.may; exit = x.exit; said = x.said; left = c.left; forgotten = false }) 0;
        number = refl;
      }
  writes false bs = record { past = wrote-past bs q; turned = refl; number = refl }

  goes_on : (up : Bool) → Same up c.number (model.writes p e (whole up k q) []) (view.acts p up e k GoesOn)
  goes_on up =
      let x = whole up (kept c (Running (p.next e s [] false)) w u) q in
      let g : x.wrote ++ [] ≡ x.wrote = append-nil x.wrote in
      record {
        past = q;
        turned = λ j. model.turned (p.after e s [] false)
            (record { number = c.number; command = q.command; user = q.user; state = p.next e s [] false; input = x.input; read = x.read; eof = c.eof; wrote = g j; sent = x.sent; may = x.may; exit = x.exit; said = x.said; left = c.left; forgotten = false }) 0;
        number = refl;
      }

  portion-is : (up : Bool) (n : ℕ) → portion n (whole up k q) ≡ take n w
  portion-is up n = ap (take n) (drop_at q.went w (length q.went) refl)

  -- with nothing left to send, more is written than may be sent just if anything is
  room : length (goes k) ≡ 0 → leb (length (q.gone ++ u)) (length q.gone + c.credit) ≡ eqb (length u) 0
  room h = let l = length-append q.gone u in let g = length-take c.credit u in grind (arith, nat_tests)

  may_write : (up : Bool) → (up ≡ true → length (goes k) ≡ 0) → (not up || leb (length (whole up k q).wrote) (whole up k q).may) ≡ (not up || eqb (length u) 0)
  may_write true h = room (h refl)
  may_write false h = refl

  pub acts-same : (up : Bool) → (up ≡ true → length (goes k) ≡ 0) → (d : Does) → Same up c.number (doing (real a m) p up e (whole up k q) d) (view.acts p up e k d)
  acts-same up h (Reads n) =
      same_by (ap (λ bs. cond (view.fits n) (cond (ltb 0 (length bs) || c.eof) (model.reads p e (whole up k q) bs) (model.turned e (whole up k q) 0)) (model.ends p e (whole up k q) 255)) (portion-is up n))
      (same_cond (view.fits n) (same_cond (ltb 0 (length (take n w)) || c.eof) (reads up n) (waits up)) (ends up 255))
  acts-same up h (Writes bs) =
      same_by (ap (λ b. cond (view.fits (length bs)) (cond b (model.writes p e (whole up k q) bs) (model.turned e (whole up k q) 0)) (model.ends p e (whole up k q) 255)) (may_write up h))
      (same_cond (view.fits (length bs)) (same_cond (not up || eqb (length u) 0) (writes up bs) (waits up)) (ends up 255))
  acts-same up h (Ends n) = ends up (cond (leb n 255) n 255)
  acts-same up h GoesOn = goes_on up

module _ {S E : Type 0} (p : Programs S E) where
  both : {X : Type 0} (b : Bool) (x : X) → x ≡ cond b x x
  both true x = refl
  both false x = refl

  drained-in : (e : E) (c : Counts) (l : Life S) (w u : List ℕ) (q : Past S) (n : ℕ) → Same false c.number (drained p (model.turned e (whole false (kept c l w u) q) n)) (view.drained_in p e (kept c l w u))
  drained-in e c (Running s) w u q n = go (leb c.left 1)
    where
      go : (b : Bool) → Same false c.number (model.drained_by p (model.turned e (whole false (kept c (Running s) w u) q) n) b) (cond b (view.ends p e (view.counted p (kept c (Running s) w u)) 255) (view.turned e (view.counted p (kept c (Running s) w u)) 0))
      go true = record { past = ended-past s q; turned = refl; number = refl }
      go false = record { past = q; turned = refl; number = refl }
  drained-in e c (Ended x) w u q n = record { past = q; turned = ap (λ z. whole_turn false z q) (both (leb c.left 1) (view.turned e (view.counted p (kept c (Ended x) w u)) 0)); number = ap (λ z. number_in z.kept) (sym (both (leb c.left 1) (view.turned e (view.counted p (kept c (Ended x) w u)) 0))) }

  drained-same : (y : model.Turned S E) (z : Turned S E) (t : ℕ) → Same false t y z → Same false t (drained p y) (view.drained_in p z.env z.kept)
  drained-same y z t x = let r = drained-in z.env z.kept.counts z.kept.life z.kept.input z.kept.output x.past z.freed in
      record { past = r.past; turned = ap (drained p) x.turned ∙ r.turned; number = r.number ∙ x.number }

  -- a turn of a program that runs
  pub turn-same : (a : ℕ → ℕ → List ℕ → Bool) (m : ℕ → ℕ → Bool) (up : Bool) (e : E) (c : Counts) (s : S) (w u : List ℕ) (q : Past S) → (up ≡ true → length (goes (kept c (Running s) w u)) ≡ 0) → Same up c.number (turn_in (real a m) p up e (whole up (kept c (Running s) w u) q)) (view.turn_by p up e (kept c (Running s) w u))
  turn-same a m true e c s w u q h = acts-same a m p e c s w u q true h (p.does e s)
  turn-same a m false e c s w u q h = drained-same (doing (real a m) p false e (whole false (kept c (Running s) w u) q) (p.does e s)) (view.acts p false e (kept c (Running s) w u) (p.does e s)) c.number (acts-same a m p e c s w u q false h (p.does e s))
