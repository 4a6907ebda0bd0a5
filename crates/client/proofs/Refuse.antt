-- Each command that is refused, as its contract has it.
use Rattle.std.proofs.Common.{◌≡◌, ℕ, ◌+◌, ◌<◌, ◌≤◌, true, false, not, leb, ◌⊎◌, List, length, get_or, Some, Ok, Err, Result, sym, refl, ap, ◌∙◌, subst, inl, inr}
use Rattle.std.proofs.lemmas.Bool.{lt-ltb, le-ltb, lt-leb, or_right, le-leb}
use Rattle.model.specs.Messages.{real}
use Rattle.model.specs.Client as side
use Rattle.model.specs.Client.{Command, LogIn, Start, Enter, Finish, Take, refusal, unless}
use Rattle.client_channel.specs.Kept.{Kept, fresh}
use Rattle.client.specs.declared.value.Client.{Client}
use Rattle.client.specs.declared.refusal.Refusal.{Refusal}
use Rattle.client.specs.declared.refusal.Refusal.TheVariants.{BadNumber, TooManyHeld, NotHeld, AfterEof, TooMuch, Down}
use Rattle.std.specs.Result.{IsErr, IsErrAnd}
use Rattle.client.specs.declared.refusal.Refused.{Refused}
use Rattle.client.specs.declared.refusal.Refused.TheVariants.{By}
use Rattle.client.specs.View.{View, view_of, refusal_of}
use Rattle.client.specs.Contract.{Accepts, May, Stands, is_busy, Refuses, Stopped, Obeyed}
use Rattle.client.proofs.Refusals.{enter-at, finish-at, login-is, start_is, enter-absent, finish-absent, take-absent}

-- the refusal, as the code hands it on
pub refused_by : {T : Type 0} (r : Result T Refused) (f : Refusal) → IsErr r × IsErrAnd r (λ e. e ≡ By f) → r ≡ Err (By f)
refused_by (Ok x) f h = absurd h.1
refused_by (Err e) f h = ap Err h.1

pub stopped : {T : Type 0} (k : Command) (c : Client) (r : Result T Refused) (f g : Refusal) → IsErr r × IsErrAnd r (λ e. e ≡ By f) → f ≡ g → Refuses k c g c → Obeyed k c r c
stopped {T} k c r f g h q x = subst (λ z. Obeyed {T = T} k c z c) (sym (refused_by r f h ∙ ap (λ z. Err (By z)) q)) x

pub stops : (k : Command) (c : Client) (e : Refused) (f : Refusal) → e ≡ By f → Refuses k c f c → Stopped k c e c
stops k c e f h x = subst (λ z. Stopped k c z c) (sym h) x

refuses : (k : Command) (c : Client) (f : Refusal) → is_busy c ≡ false → ((a : Accepts) (m : May) (w : side.Client) → Stands c w → refusal (real a m) k w ≡ Some (refusal_of f)) → Refuses k c f c
refuses k c f b h = record { idle = b; same = refl; why = h }

module _ (c : Client) (b : is_busy c ≡ false) where
  abbrev v : View
  v = view_of c

  pub login-down : (x : ℕ) (p : List ℕ) → v.up ≡ false → Refuses (LogIn x p) c Down c
  login-down x p u = refuses (LogIn x p) c Down b (λ a m w s. login-is v w s b a m x p ∙ rw u)

  module _ (t q : ℕ) where
    pub start-bad : (t < v.next) ⊎ (65535 < t) → Refuses (Start t q) c BadNumber c
    start-bad (inl h) = refuses (Start t q) c BadNumber b (λ a m w s. start_is v w s b a m t q ∙ rw (lt-leb v.next t h))
    start-bad (inr h) = refuses (Start t q) c BadNumber b (λ a m w s. start_is v w s b a m t q ∙ rw (lt-ltb 65535 t h, or_right (not (leb v.next t)) true refl))

    pub start-many : v.next ≤ t → t ≤ 65535 → 16 ≤ length v.kepts → Refuses (Start t q) c TooManyHeld c
    start-many h l n = refuses (Start t q) c TooManyHeld b (λ a m w s. start_is v w s b a m t q ∙ rw (le-leb v.next t h, le-ltb 65535 t l, le-ltb (length v.kepts) 16 n))

    pub start-down : v.next ≤ t → t ≤ 65535 → length v.kepts < 16 → v.up ≡ false → Refuses (Start t q) c Down c
    start-down h l n u = refuses (Start t q) c Down b (λ a m w s. start_is v w s b a m t q ∙ rw (le-leb v.next t h, le-ltb 65535 t l, lt-ltb (length v.kepts) 16 n, u))

  module _ (t : ℕ) (n : (i : ℕ) (d : Kept) → i < length v.kepts → (get_or v.kepts i d).number ≡ t → ⊥) where
    pub input-absent : (bs : List ℕ) → Refuses (Enter t bs) c NotHeld c
    input-absent bs = refuses (Enter t bs) c NotHeld b (λ a m w s. enter-absent v w s b a m t n bs)

    pub eof-absent : Refuses (Finish t) c NotHeld c
    eof-absent = refuses (Finish t) c NotHeld b (λ a m w s. finish-absent v w s b a m t n)

    pub taking-absent : (k : ℕ) → Refuses (Take t k) c NotHeld c
    taking-absent k = refuses (Take t k) c NotHeld b (λ a m w s. take-absent v w s b a m t n k)

  module _ (i : ℕ) (l : i < length v.kepts) where
    abbrev k : Kept
    k = get_or v.kepts i (fresh 0)

    pub input-down : (bs : List ℕ) → v.up ≡ false → Refuses (Enter k.number bs) c Down c
    input-down bs u = refuses (Enter k.number bs) c Down b (λ a m w s. enter-at v w s b a m i (fresh 0) l bs ∙ rw u)

    pub input-after : (bs : List ℕ) → v.up ≡ true → k.eof ≡ true → Refuses (Enter k.number bs) c AfterEof c
    input-after bs u e = refuses (Enter k.number bs) c AfterEof b (λ a m w s. enter-at v w s b a m i (fresh 0) l bs ∙ rw (u, e))

    pub input-much : (bs : List ℕ) → v.up ≡ true → k.eof ≡ false → 16384 < length k.waiting + length bs → Refuses (Enter k.number bs) c TooMuch c
    input-much bs u e f = refuses (Enter k.number bs) c TooMuch b (λ a m w s. enter-at v w s b a m i (fresh 0) l bs ∙ rw (u, e, lt-ltb 16384 (length k.waiting + length bs) f))

    pub eof-down : v.up ≡ false → Refuses (Finish k.number) c Down c
    eof-down u = refuses (Finish k.number) c Down b (λ a m w s. finish-at v w s b a m i (fresh 0) l ∙ rw u)

    pub eof-after : v.up ≡ true → k.eof ≡ true → Refuses (Finish k.number) c AfterEof c
    eof-after u e = refuses (Finish k.number) c AfterEof b (λ a m w s. finish-at v w s b a m i (fresh 0) l ∙ rw (u, e))
