-- What goes by itself, of what is held and of the model's channel alike.
use Rattle.std.proofs.Common.{◌≡◌, ℕ, ◌+◌, ◌-◌, Bool, true, false, cond, not, ◌&&◌, ◌||◌, eqb, List, [], ◌∷◌, ◌++◌, map, length, take, drop, sym, refl, ap, ◌∙◌, subst, ⊎_elim, arith}
use Rattle.std.proofs.lemmas.List.{append_assoc, take-append-drop, length-append, length-take, drop_at, take_all, drop_all, append-nil}
use Rattle.std.proofs.lemmas.Bool.Decides.{nat_tests}
use Rattle.std.proofs.lemmas.Bool.{cases_lt}
use Rattle.model.specs.Keyed.{gather, each}
use Rattle.model.specs.Messages.{real, parts, is_some}
use Rattle.model.specs.Server.{ServerChannel, goes_back, exit_now, exit_reply, outputs, replies, sent_back, replies_of, returned, sent_kept}
use Rattle.server_channel.specs.declared.Life.{Life}
use Rattle.server_channel.specs.declared.Life.TheVariants.{Running, Ended}
use Rattle.server_channel.specs.declared.Channel.{Channel}
use Rattle.server_channel.specs.Kept.{goes, exit_due, due, settled, is_running, exit_of}
use Rattle.desk.specs.View.{number_in, due_of}
use Rattle.server.specs.Stands.{Past, whole, state_of, Stand, none, past, held}

-- what goes and what stays
pub parted : (n : ℕ) (xs : List ℕ) → take n xs ++ drop (length (take n xs)) xs ≡ xs
parted n xs =
    let e = length-take n xs in
    ⊎_elim
    (λ h. let q : length (take n xs) ≡ n = omega arith in ap (λ v. take n xs ++ drop v xs) q ∙ take-append-drop n xs)
    (λ h. let q : length (take n xs) ≡ length xs = omega arith in (λ i. take_all n xs h i ++ (ap (λ v. drop v xs) q ∙ drop_all (length xs) xs (omega arith)) i) ∙ append-nil xs)
    (cases_lt n (length xs))

module _ {S : Type 0} where
  pub goes_same : (k : Channel S) (p : Past S) → goes_back (whole true k p) ≡ goes k
  goes_same k p =
      let n : length p.gone + k.counts.credit - length p.gone ≡ k.counts.credit = omega arith in
      λ i. take (n i) (drop_at p.gone k.output (length p.gone) refl i)

  pub exit-same : (k : Channel S) (p : Past S) → exit_now (whole true k p) ≡ exit_due k
  exit-same k p =
      let g = ap length (goes_same k p) in
      let a = length-append p.gone k.output in
      ap (λ b. b && not k.counts.said) (let q : eqb (length p.gone + length (goes_back (whole true k p))) (length (p.gone ++ k.output)) ≡ eqb (length (goes k)) (length k.output) = grind (arith, nat_tests) in q)

  pub replies-same : (a : ℕ → ℕ → List ℕ → Bool) (m : ℕ → ℕ → Bool) (k : Channel S) (p : Past S) → replies (real a m) (whole true k p) ≡ due k
  unfolding due
  replies-same a m k p = λ i. outputs (parts (length (goes_same k p i)) 1024 (goes_same k p i)) ++ exit_reply (exit-same k p i) (exit_of k.life)

  abbrev pub sent_past : Channel S → Past S → Past S
  sent_past k p = record { command = p.command; user = p.user; state = p.state; went = p.went; gone = p.gone ++ goes k; sent = p.sent; may = p.may; said = p.said }

  ended_same : (l : Life S) → is_some (exit_of l) ≡ not (is_running l)
  ended_same (Running s) = refl
  ended_same (Ended n) = refl

  pub sent-same : (k : Channel S) (p : Past S) → sent_back (whole true k p) ≡ whole true (settled k) (sent_past k p)
  unfolding settled
  sent-same k p =
      let g = ap length (goes_same k p) in
      let a = length-append p.gone (goes k) in
      let t = length-take k.counts.credit k.output in
      let s : length p.gone + length (goes_back (whole true k p)) ≡ length (p.gone ++ goes k) = omega arith in
      let m : length p.gone + k.counts.credit ≡ length (p.gone ++ goes k) + (k.counts.credit - length (goes k)) = omega arith in
      let w : p.gone ++ k.output ≡ (p.gone ++ goes k) ++ drop (length (goes k)) k.output = ap (λ v. p.gone ++ v) (sym (parted k.counts.credit k.output)) ∙ sym (append_assoc p.gone (goes k) (drop (length (goes k)) k.output)) in
      let d : (k.counts.said || (exit_now (whole true k p) && is_some (exit_of k.life))) ≡ (k.counts.said || (exit_due k && not (is_running k.life))) = λ i. k.counts.said || (exit-same k p i && ended_same k.life i) in
      λ i. record {
        number = k.counts.number;
        command = p.command;
        user = p.user;
        state = state_of k.life p.state;
        input = p.went ++ k.input;
        read = length p.went;
        eof = k.counts.eof;
        wrote = w i;
        sent = s i;
        may = m i;
        exit = exit_of k.life;
        said = d i;
        left = k.counts.left;
        forgotten = false;
      }

module _ {S : Type 0} {Good : ℕ → Type 0} (a : ℕ → ℕ → List ℕ → Bool) (m : ℕ → ℕ → Bool) where
  pub gather-same : {lo : ℕ} {ks : List (Channel S)} {xs : List (ServerChannel S)} → Stand true Good lo ks xs → gather (replies_of (real a m)) xs ≡ gather due_of ks
  unfolding gather returned
  gather-same none = refl
  gather-same (past {x = x} {xs = xs} h b g st) = (λ i. returned x.number (cond (h i) [] (outputs (parts (length (goes_back x)) 1024 (goes_back x)) ++ exit_reply (exit_now x) x.exit)) ++ gather (replies_of (real a m)) xs) ∙ gather-same st
  gather-same (held {k = k} {ks = ks} p e b g st) = (λ i. replies_of (real a m) (e i) ++ gather-same st i) ∙ ap (λ v. returned (number_in k) v ++ gather due_of ks) (replies-same a m k p)

  pub stand-flushed : {lo : ℕ} {ks : List (Channel S)} {xs : List (ServerChannel S)} → Stand true Good lo ks xs → Stand true Good lo (map settled ks) (each sent_back xs)
  unfolding each settled
  stand-flushed none = none
  stand-flushed {lo = lo} (past {ks = ks} {x = x} {xs = xs} h b g st) = let y : sent_back x ≡ x = ap (λ c. cond c x (sent_kept x)) h in subst (λ z. Stand true Good lo (map settled ks) (z ∷ each sent_back xs)) (sym y) (past h b g (stand-flushed st))
  stand-flushed (held {k = k} p e b g st) = held (sent_past k p) (ap sent_back e ∙ sent-same k p) b g (stand-flushed st)
