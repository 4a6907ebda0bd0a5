-- The next message, as its contract has it.
use Rattle.std.proofs.Common.{◌≡◌, ℕ, ◌<◌, false, ◌||◌, [], ◌∷◌, length, get_or, set, Some, None, Option, sym, refl, ap, ◌∙◌, subst}
use Rattle.std.specs.List.{remove}
use Rattle.std.specs.Option as option
use Rattle.std.specs.Option.{option_map}
use Rattle.model.specs.Messages as model
use Rattle.model.specs.Client as side
use Rattle.message.specs.Views.{request, to_server}
use Rattle.message.specs.declared.to_server.Request.{Request}
use Rattle.message.specs.declared.to_server.Request.TheVariants.{Run, Input, OutputCredit, Eof, Close}
use Rattle.message.specs.declared.to_server.ToServer.{ToServer}
use Rattle.message.specs.declared.to_server.ToServer.TheVariants.{For}
use Rattle.client_channel.specs.Kept.{Bytes, Kept, kept, fresh}
use Rattle.client_channel.specs.declared.state.Channel.{Channel}
use Rattle.client_channel.specs.Steps.{Step, step_to, next_of}
use Rattle.client.specs.declared.value.Client.{Client}
use Rattle.client.specs.View.{View, view_of}
use Rattle.client.specs.Stand.{StandsFor, owed_by, is_some, busy}
use Rattle.client.specs.Contract.{Stands, owed, is_busy, Hands, HandsNone, HandsOne}
use Rattle.client.proofs.Bare.{requests_k}
use Rattle.client.proofs.Next.{Sent, Closing, NextFacts, next-is}
use Rattle.client.proofs.Moves.{view, owed-idle}
use Rattle.client.proofs.Sends.{pending-out, pending-first, sent-out, sent-first, closed-out, closed-first, rest-none, rest_out}

pub busy-not : (v : View) → v.pending ≡ [] → v.turn ≡ None → busy v ≡ false
busy-not v e l = λ j. is_some (e j) || option.is_some (l j)

-- what the next request tells of the channel
pub facts-of : (k : Kept) (k' : Kept) (q : Option Request) → step_to k' (option_map request q) ≡ next_of k → NextFacts k k' (option_map request q)
facts-of k k' q e = subst (λ (z : Step). NextFacts k z.channel z.sends) (sym e) (next-is k)

pub rest_of : (k k' : Kept) (q : Option Request) → q ≡ None → NextFacts k k' (option_map request q) → (k' ≡ k) × (requests_k k ≡ [])
rest_of k k' q e f = subst (λ z. NextFacts k k' (option_map request z)) e f

pub close_of : (k k' : Kept) (q : Option Request) → q ≡ Some Close → NextFacts k k' (option_map request q) → Closing k k'
close_of k k' q e f = subst (λ z. NextFacts k k' (option_map request z)) e f

pub sent-of : (k k' : Kept) (q : Option Request) (r : Request) → q ≡ Some r → (r ≡ Close → ⊥) → NextFacts k k' (option_map request q) → Sent k k' (request r)
sent-of k k' q r e n f = go r n (subst (λ z. NextFacts k k' (option_map request z)) e f)
  where
    go : (x : Request) → (x ≡ Close → ⊥) → NextFacts k k' (Some (request x)) → Sent k k' (request x)
    go (Run c) n h = absurd h
    go (Input b) n h = h
    go (OutputCredit m) n h = absurd h
    go Eof n h = h
    go Close n h = absurd (n refl)

-- the bytes, where the channel is as it was
pub bytes_same : (x y : Channel) (b a : Bytes) → kept x b ≡ kept y a → b ≡ a
bytes_same x y b a e = λ j. record { input = (e j).waiting; output = (e j).unseen }

module _ (c : Client) where
  abbrev v : View
  v = view_of c

  pub hands-pending : (m : ToServer) (d : Client) → v.pending ≡ to_server m ∷ [] → view_of d ≡ view v.kepts v.is_used v.next v.accepted v.up [] v.turn → HandsOne c m d
  hands-pending m d e f =
      record {
        first = λ w s. pending-first v w s (to_server m) e ∙ ap (λ z. to_server m ∷ owed_by z) (sym f);
        stands = λ w s. subst (λ z. StandsFor z w) (sym f) (pending-out v w s (to_server m) e);
      }

  pub hands-idle : v.pending ≡ [] → v.turn ≡ None → HandsNone c c
  hands-idle e l = let b = busy-not v e l in record { idle = b; nothing = λ w s. owed-idle v w s b; still = λ w s. owed-idle v w s b; stands = λ w s. s }

  module _ (e : v.pending ≡ []) (i : ℕ) (t : v.turn ≡ Some i) (l : i < length v.kepts) where
    abbrev k : Kept
    k = get_or v.kepts i (fresh 0)

    pub hands-rest : (d : Client) → requests_k k ≡ [] → view_of d ≡ view v.kepts v.is_used v.next v.accepted v.up v.pending None → HandsNone c d
    hands-rest d r f =
        record {
          idle = b;
          nothing = λ w s. rest-none v w s e i t (fresh 0) l r;
          still = λ w s. owed-idle (view_of d) w (st w s) b;
          stands = st;
        }
      where
        b : is_busy d ≡ false
        b = ap busy f ∙ busy-not (view v.kepts v.is_used v.next v.accepted v.up v.pending None) e refl

        st : (w : side.Client) → Stands c w → Stands d w
        st w s = subst (λ z. StandsFor z w) (sym f) (rest_out v w s e i t (fresh 0) l r)

    pub hands-sent : (k' : Kept) (q : Request) (m : ℕ) (d : Client) → Sent k k' (request q) → k.number ≡ m → view_of d ≡ view (set v.kepts i k') v.is_used v.next v.accepted v.up [] v.turn → HandsOne c (For m q) d
    hands-sent k' q m d h n f =
        record {
          first = λ w s. sent-first v w s e i t (fresh 0) l k' (request q) h ∙ ap (λ j. model.For j (request q) ∷ owed_by (view (set v.kepts i k') v.is_used v.next v.accepted v.up [] v.turn)) n ∙ ap (λ z. model.For m (request q) ∷ owed_by z) (sym f);
          stands = λ w s. subst (λ z. StandsFor z w) (sym f) (sent-out v w s e i t (fresh 0) l k' (request q) h);
        }

    pub hands-closed : (k' : Kept) (q : Request) (m : ℕ) (d : Client) → Closing k k' → q ≡ Close → k.number ≡ m → view_of d ≡ view (remove v.kepts i) v.is_used v.next v.accepted v.up [] None → HandsOne c (For m q) d
    hands-closed k' q m d h eq n f =
        record {
          first = λ w s. closed-first v w s e i t (fresh 0) l k' h ∙ ap (λ j. model.For j model.Close ∷ owed_by (view (remove v.kepts i) v.is_used v.next v.accepted v.up [] None)) n ∙ ap (λ z. model.For m model.Close ∷ owed_by z) (sym f) ∙ ap (λ z. model.For m (request z) ∷ owed d) (sym eq);
          stands = λ w s. subst (λ z. StandsFor z w) (sym f) (closed-out v w s e i t (fresh 0) l k' h);
        }

-- a value that is seen the same hands out the same
pub hands_as : (c c' : Client) (m : Option ToServer) (d : Client) → view_of c ≡ view_of c' → Hands c m d → Hands c' m d
hands_as c c' None d e h =
    let back = λ (w : side.Client) (s : Stands c' w). subst (λ z. StandsFor z w) (sym e) s in
    record { idle = h.idle; nothing = λ w s. sym (ap owed_by e) ∙ h.nothing w (back w s); still = λ w s. h.still w (back w s); stands = λ w s. h.stands w (back w s) }
hands_as c c' (Some m) d e h =
    let back = λ (w : side.Client) (s : Stands c' w). subst (λ z. StandsFor z w) (sym e) s in
    record { first = λ w s. sym (ap owed_by e) ∙ h.first w (back w s); stands = λ w s. h.stands w (back w s) }
