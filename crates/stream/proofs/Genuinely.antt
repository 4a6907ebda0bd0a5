-- What is taken is a prefix of what was sent, or a forged message is at hand.
use Rattle.std.proofs.Common.{◌≡◌, ℕ, suc, ◌+◌, ◌≤◌, Bool, true, false, cond, ◌⊎◌, List, [], ◌∷◌, ◌++◌, length, drop, Some, None, Option, sym, refl, ap, ◌∙◌, subst, inl, inr, arith}
use borrow.Author.Tests.{both_ways}
use Rattle.std.proofs.lemmas.List.{append_assoc, append-nil, drop_at, length-append, length_push}
use Rattle.std.proofs.lemmas.Bool.Decides.{nat_tests}
use Rattle.std.proofs.lemmas.Grind.{common_steps}
use Rattle.wire.specs.declared.fault.Fault.{Fault}
use Rattle.wire.specs.declared.fault.Fault.TheVariants.{Length, Tag, Malformed}
use Rattle.seal.specs.declared.secret.Secret.{Secret}
use Rattle.seal.specs.Frames.{Fits, Whole as IsWhole, frame, largest, opened}
use Rattle.seal.proofs.Opened.{length-frame, opens-sealed}
use Rattle.stream.specs.Streams.{Got, feed, got, is_long, is_right, is_whole, read, same, start, step, step_in, whole}
use Rattle.stream.specs.Readers.{Short}
use Rattle.stream.specs.Promises.{Forged, Genuine, Prefix}
use Rattle.stream.proofs.Gathering.{few}
use Rattle.stream.proofs.Feeds.{right-fits, same_refl, same_true}

-- one more byte makes a message whole
now-whole : (h : List ℕ) (b : ℕ) → Short h → is_long (h ++ b ∷ []) ≡ false → is_whole (h ++ b ∷ []) ≡ true → IsWhole (h ++ b ∷ [])
now-whole h b sh el ew =
    record { size = grind (arith, common_steps, nat_tests, sh.fits); bound = grind (arith, common_steps, nat_tests) }

still-short : (x : List ℕ) → is_long x ≡ false → is_whole x ≡ false → Short x
still-short x el ew = record { fits = λ l. (grind (arith, nat_tests), grind (arith, nat_tests)) }

pub forged-more : (s : Secret) (sent : List (List ℕ)) (a b : List ℕ) → Forged s sent a → Forged s sent (a ++ b)
forged-more s sent a b f =
    record {
      number = f.number;
      before = f.before;
      message = f.message;
      behind = f.behind ++ b;
      at =
          ap (λ (v : List ℕ). v ++ b) f.at ∙ append_assoc f.before (f.message ++ f.behind) b
          ∙ ap (λ (v : List ℕ). f.before ++ v) (append_assoc f.message f.behind b);
      whole = f.whole;
      fits = f.fits;
      unmade = f.unmade;
    }

module _ (s : Secret) (known : List ℕ → Bool) (sent : List (List ℕ)) where
  -- what holds after each byte
  pub record Inv (done : List ℕ) (g : Got) : Type 0 where
    pub taken : Prefix g.taken sent
    pub count : g.fault ≡ None → g.number ≡ length g.taken
    pub held : g.fault ≡ None → (before : List ℕ) × (done ≡ before ++ g.held)
    pub short : g.fault ≡ None → Short g.held

  some-none : (f : Fault) → Some f ≡ None → ⊥
  some-none f q = cc

  -- a fault
  failed : (done : List ℕ) (n : ℕ) (h : List ℕ) (t : List (List ℕ)) (f : Fault) → Prefix t sent → Inv done (got n h t (Some f))
  failed done n h t f p =
      record { taken = p; count = λ q. absurd (some-none f q); held = λ q. absurd (some-none f q); short = λ q. absurd (some-none f q) }

  -- a message that fits is the one that was sent, or it is forged
  sent-or-forged : (n : ℕ) (t rest : List (List ℕ)) (before x : List ℕ) → n ≡ length t → t ++ rest ≡ sent → IsWhole x → Fits s n x
      → Prefix (t ++ opened s n x ∷ []) sent ⊎ Forged s sent (before ++ x)
  sent-or-forged n t [] before x en et w fit =
      inr
      (record {
        number = n;
        before = before;
        message = x;
        behind = [];
        at = ap (λ (v : List ℕ). before ++ v) (sym (append-nil x));
        whole = w;
        fits = fit;
        unmade = λ first y later e l ex.
            let k : length sent ≡ length first + suc (length later) = ap length e ∙ length-append first (y ∷ later) in
            let m : length sent ≡ length t = ap length (sym et ∙ append-nil t) in absurd (omega arith);
      })
  sent-or-forged n t (y ∷ rest) before x en et w fit = by (same x (frame s n y)) refl
    where
      by : (b : Bool) → same x (frame s n y) ≡ b → Prefix (t ++ opened s n x ∷ []) sent ⊎ Forged s sent (before ++ x)
      by true q =
          let e : x ≡ frame s n y = same_true x (frame s n y) q in
          let lx : length x ≡ length y + 18 = ap length e ∙ length-frame s n y in
          let ly : length y ≤ largest = omega (arith, w.size, w.bound) in
          let eo : opened s n x ≡ y = ap (opened s n) e ∙ (opens-sealed s n y ly fit.0).inside in
          inl (rest, append_assoc t (opened s n x ∷ []) rest ∙ ap (λ (v : List ℕ). t ++ v ∷ rest) eo ∙ et)
      by false q =
          inr
          (record {
            number = n;
            before = before;
            message = x;
            behind = [];
            at = ap (λ (v : List ℕ). before ++ v) (sym (append-nil x));
            whole = w;
            fits = fit;
            unmade = λ first z later e l ex.
                let d1 : drop n sent ≡ z ∷ later = ap (drop n) e ∙ drop_at first (z ∷ later) n l in
                let d2 : drop n sent ≡ y ∷ rest = ap (drop n) (sym et) ∙ drop_at t (y ∷ rest) n (sym en) in
                let ez : z ≡ y = cc in
                let er : x ≡ frame s n y = ex ∙ ap (frame s n) ez in
                both_ways (same x (frame s n y)) q (ap (λ (v : List ℕ). same v (frame s n y)) er ∙ same_refl (frame s n y));
          })

  -- one more byte where no fault was
  module _ (done before : List ℕ) (n : ℕ) (h : List ℕ) (t : List (List ℕ)) (b : ℕ) (p : Prefix t sent) (en : n ≡ length t) (ed : done ≡ before ++ h) (sh : Short h) where
    x : List ℕ
    x = h ++ b ∷ []

    all : List ℕ
    all = done ++ b ∷ []

    abbrev Kept : Got → Type 0
    Kept g = Inv (done ++ b ∷ []) g ⊎ Forged s sent (done ++ b ∷ [])

    ex : done ++ b ∷ [] ≡ before ++ (h ++ b ∷ [])
    ex = ap (λ (v : List ℕ). v ++ b ∷ []) ed ∙ append_assoc before h (b ∷ [])

    read_kept : IsWhole (h ++ b ∷ []) → Fits s n (h ++ b ∷ []) → Prefix (t ++ opened s n (h ++ b ∷ []) ∷ []) sent → (k : Bool)
        → Kept (cond k (got (n + 1) [] (t ++ opened s n (h ++ b ∷ []) ∷ []) None) (got n [] t (Some Malformed)))
    read_kept w fit q true =
        inl
        (record {
          taken = q;
          count = λ _. ap (λ (v : ℕ). v + 1) en ∙ sym (length_push t (opened s n (h ++ b ∷ [])));
          held = λ _. (done ++ b ∷ [], sym (append-nil (done ++ b ∷ [])));
          short = λ _. few [] (omega arith);
        })
    read_kept w fit q false = inl (failed (done ++ b ∷ []) n [] t Malformed p)

    fits_kept : IsWhole (h ++ b ∷ []) → Fits s n (h ++ b ∷ []) → Prefix (t ++ opened s n (h ++ b ∷ []) ∷ []) sent ⊎ Forged s sent (before ++ (h ++ b ∷ []))
        → Kept (read s known (got n h t None) (opened s n (h ++ b ∷ [])))
    fits_kept w fit (inl q) = read_kept w fit q (known (opened s n (h ++ b ∷ [])))
    fits_kept w fit (inr f) = inr (subst (λ (v : List ℕ). Forged s sent v) (sym ex) f)

    whole-kept : IsWhole (h ++ b ∷ []) → (r : Bool) → is_right s n (h ++ b ∷ []) ≡ r
        → Kept (cond r (read s known (got n h t None) (opened s n (h ++ b ∷ []))) (got n [] t (Some Tag)))
    whole-kept w true e =
        let fit = right-fits s n (h ++ b ∷ []) e in fits_kept w fit (sent-or-forged n t p.0 before (h ++ b ∷ []) en p.1 w fit)
    whole-kept w false e = inl (failed (done ++ b ∷ []) n [] t Tag p)

    held_kept : is_long (h ++ b ∷ []) ≡ false → (wb : Bool) → is_whole (h ++ b ∷ []) ≡ wb
        → Kept (cond wb (whole s known (got n h t None) (h ++ b ∷ [])) (got n (h ++ b ∷ []) t None))
    held_kept el true e = whole-kept (now-whole h b sh el e) (is_right s n (h ++ b ∷ [])) refl
    held_kept el false e =
        inl (record { taken = p; count = λ _. en; held = λ _. (before, ex); short = λ _. still-short (h ++ b ∷ []) el e })

    byte-kept : (lb : Bool) → is_long (h ++ b ∷ []) ≡ lb
        → Kept (cond lb (got n [] t (Some Length)) (cond (is_whole (h ++ b ∷ [])) (whole s known (got n h t None) (h ++ b ∷ [])) (got n (h ++ b ∷ []) t None)))
    byte-kept true e = inl (failed (done ++ b ∷ []) n [] t Length p)
    byte-kept false e = held_kept e (is_whole (h ++ b ∷ [])) refl

  step_kept : (done : List ℕ) (g : Got) (b : ℕ) (o : Option Fault) → g.fault ≡ o → Inv done g
      → Inv (done ++ b ∷ []) (step_in s known o g b) ⊎ Forged s sent (done ++ b ∷ [])
  step_kept done g b (Some f) e i =
      inl
      (record {
        taken = i.taken;
        count = λ q. absurd (some-none f (sym e ∙ q));
        held = λ q. absurd (some-none f (sym e ∙ q));
        short = λ q. absurd (some-none f (sym e ∙ q));
      })
  step_kept done g b None e i =
      let q = i.held e in
      byte-kept done q.0 g.number g.held g.taken b i.taken (i.count e) q.1 (i.short e) (is_long (g.held ++ b ∷ [])) refl

  pub all-kept : (bs done : List ℕ) (g : Got) → Inv done g ⊎ Forged s sent done → Inv (done ++ bs) (feed s known g bs) ⊎ Forged s sent (done ++ bs)
  unfolding feed
  all-kept [] done g (inl i) = inl (subst (λ (v : List ℕ). Inv v g) (sym (append-nil done)) i)
  all-kept bs done g (inr f) = inr (forged-more s sent done bs f)
  all-kept (b ∷ bs) done g (inl i) =
      subst (λ (v : List ℕ). Inv v (feed s known (step s known g b) bs) ⊎ Forged s sent v) (append_assoc done (b ∷ []) bs)
      (all-kept bs (done ++ b ∷ []) (step s known g b) (step_kept done g b g.fault refl i))

  begins : Inv [] start
  begins = record { taken = (sent, refl); count = λ _. refl; held = λ _. ([], refl); short = λ _. few [] (omega arith) }

  pub genuine-of : (bytes : List ℕ) → Prefix (feed s known start bytes).taken sent ⊎ Forged s sent bytes
  genuine-of bytes = by (all-kept bytes [] start (inl begins))
    where
      by : Inv bytes (feed s known start bytes) ⊎ Forged s sent bytes → Prefix (feed s known start bytes).taken sent ⊎ Forged s sent bytes
      by (inl i) = inl i.taken
      by (inr f) = inr f

pub genuine : Genuine
genuine s known sent bytes = genuine-of s known sent bytes
