-- Messages for a channel that was change nothing, and logins that are not accepted only the count of tries. Assumes nothing.
use Rattle.std.proofs.Common.{◌≡◌, ℕ, suc, ◌<◌, ◌≤◌, Bool, true, false, cond, ltb, List, [], ◌∷◌, ◌++◌, Some, None, Ok, Err, refl, ap, ◌∙◌, inl, inr, append-nil}
use mathlib.Core.List.{Memᴰ}
use Rattle.std.proofs.lemmas.Bool.{true≢false, cond-true, cond-false, lt-ltb, le-ltb}
use Rattle.model.specs.Keyed.{change, numbers, is_in, Rising, gather, each}
use Rattle.model.specs.Messages.{Rules, Request, Run, Input, OutputCredit, Eof, Close, Reply, ToServer, Login, ToClient, Accepted, Programs, Did, did, Fault}
use Rattle.model.specs.Client.{Client, ClientChannel, Phase, Asked, Running, Refused, Closed, client, number_of, holds, requests, requests_of, labelled, flushed, flush, hear, hear_in, heard, with_channels}
use Rattle.model.specs.Server.{Server, ServerChannel, server, number_at, replies, replies_of, returned, sent_back, flush_back, with_all, forget_all, hear_kept, pass_to, passed, pass, is_refused, for_channel, login_by, serve}
use Rattle.model.specs.Dropped.{LateReplyDropped, LateRequestDropped, LaterLoginRefused, WrongLoginCounts, Was, is_run}
use Rattle.model.proofs.Still.{each-still, gather-still, change-same, flushed-still, sent_back-still}

pub labelled-none : (r : Rules) (x : ClientChannel) → requests r x ≡ [] → requests_of r x ≡ []
unfolding labelled
labelled-none r x e = ap (λ l. labelled x.number l) e

pub returned-none : {S : Type 0} (r : Rules) (f : ServerChannel S) → replies r f ≡ [] → Rattle.model.specs.Server.replies_of r f ≡ []
unfolding returned
returned-none r f e = ap (λ l. returned f.number l) e

-- a client that is up and idle flushes nothing but what it was to send
pub flush-still : (r : Rules) (c : Client) (ms : List ToServer) → c.up ≡ true → ((x : ClientChannel) → Memᴰ x c.channels → requests r x ≡ []) → flush r (did c ms) ≡ did c ms
flush-still r c ms u h =
    cond-true c.up (did (client (each flushed c.channels) c.accepted c.up) (ms ++ gather (requests_of r) c.channels)) (did c ms) u
    ∙ λ i. did (client (each-still flushed c.channels (λ x m. flushed-still r x (h x m)) i) c.accepted c.up) ((ap (λ l. ms ++ l) (gather-still (requests_of r) c.channels (λ x m. labelled-none r x (h x m))) ∙ append-nil ms) i)

module _ {S E : Type 0} where
  pub flush_back-still : (r : Rules) (s : Server S E) (ms : List ToClient) → s.up ≡ true → ((f : ServerChannel S) → Memᴰ f s.channels → replies r f ≡ []) → flush_back r (did s ms) ≡ did s ms
  flush_back-still r s ms u h =
      cond-true s.up (did (with_all (each sent_back s.channels) s) (ms ++ gather (replies_of r) s.channels)) (did (forget_all s) ms) u
      ∙ λ i. did (with_all (each-still sent_back s.channels (λ x m. sent_back-still r x (h x m)) i) s) ((ap (λ l. ms ++ l) (gather-still (replies_of r) s.channels (λ x m. returned-none r x (h x m))) ∙ append-nil ms) i)

hear-late : (r : Rules) (m : Reply) (x : ClientChannel) (q : Phase) → holds q ≡ false → hear_in r q m x ≡ Ok x
hear-late r m x Asked h = absurd (true≢false h)
hear-late r m x Running h = absurd (true≢false h)
hear-late r m x Refused h = refl
hear-late r m x Closed h = refl

pub late-reply-dropped : LateReplyDropped
late-reply-dropped r c t m x u i e h =
    ap (λ d. flush r (did d [])) (ap (λ o. heard t (hear r m o) c) e ∙ ap (λ o. heard t o c) (hear-late r m x x.phase h) ∙ ap (λ l. with_channels l c) (change-same number_of t x c.channels i.rising e))
    ∙ flush-still r c [] u i.nothing

module _ {S E : Type 0} where
  pass-was : (r : Rules) (s : Server S E) (t : ℕ) (m : Request) → Rising (numbers number_at s.channels) → Was t s → pass r t m s ≡ did s []
  pass-was r s t m ris (inl z) =
      let e = z.1 in
      ap (λ o. cond (is_refused t o s) (did s []) (did (passed t (pass_to r t m o s) s) [])) e
      ∙ ap (λ b. did (passed t (cond b (Ok z.0) (hear_kept r m z.0)) s) []) z.2
      ∙ ap (λ l. did (with_all l s) []) (change-same number_at t z.0 s.channels ris e)
  pass-was r s t m ris (inr z) =
      ap (λ o. cond (is_refused t o s) (did s []) (did (passed t (pass_to r t m o s) s) [])) z.0
      ∙ cond-true (is_in t s.used) (did s []) (did (passed t (Err Fault.NeverStarted) s) []) z.1

  for-was : (r : Rules) (p : Programs S E) (s : Server S E) (t : ℕ) (m : Request) → is_run m ≡ false → for_channel r p t m s ≡ pass r t m s
  for-was r p s t (Run k) h = absurd (true≢false h)
  for-was r p s t (Input bs) h = refl
  for-was r p s t (OutputCredit n) h = refl
  for-was r p s t Eof h = refl
  for-was r p s t Close h = refl

  pub late-request-dropped : LateRequestDropped S E
  late-request-dropped r p n s t m u i w h = ap (flush_back r) (for-was r p s t m h ∙ pass-was r s t m i.rising w) ∙ flush_back-still r s [] u i.nothing

  pub later-login-refused : LaterLoginRefused S E
  later-login-refused r p n u v q s up i e = ap (λ o. flush_back r (login_by r n u q o s)) e ∙ flush_back-still r s (Accepted false ∷ []) up i.nothing

  pub wrong-login-counts : WrongLoginCounts S E
  wrong-login-counts r p n u q s up i e a = (few, many)
    where
      one : Server S E
      one = server s.channels s.used None (suc s.tries) s.env s.up

      end : Server S E
      end = server s.channels s.used None (suc s.tries) s.env false

      at : (b : Bool) → ltb (suc s.tries) r.tries ≡ b → serve r p n (Login u q) s ≡ flush_back r (cond b (did one (Accepted false ∷ [])) (did end []))
      at b l = ap (λ o. flush_back r (login_by r n u q o s)) e ∙ ap (flush_back r) (cond-false (r.accepts n u q) (did (server s.channels s.used (Some u) s.tries s.env s.up) (Accepted true ∷ [])) (cond (ltb (suc s.tries) r.tries) (did one (Accepted false ∷ [])) (did end [])) a)
          ∙ ap (λ c. flush_back r (cond c (did one (Accepted false ∷ [])) (did end []))) l

      few : suc s.tries < r.tries → serve r p n (Login u q) s ≡ did (server s.channels s.used None (suc s.tries) s.env true) (Accepted false ∷ [])
      few l = at true (lt-ltb (suc s.tries) r.tries l) ∙ flush_back-still r one (Accepted false ∷ []) up i.nothing ∙ ap (λ b. did (server s.channels s.used None (suc s.tries) s.env b) (Accepted false ∷ [])) up

      down : (b : Bool) → ((cond b (with_all (each Rattle.model.specs.Server.forgot end.channels) end) end).up ≡ false) × ((cond b (with_all (each Rattle.model.specs.Server.forgot end.channels) end) end).tries ≡ suc s.tries)
      down true = (refl, refl)
      down false = (refl, refl)

      many : r.tries ≤ suc s.tries → ((serve r p n (Login u q) s).side.up ≡ false) × ((serve r p n (Login u q) s).sends ≡ []) × ((serve r p n (Login u q) s).side.tries ≡ suc s.tries)
      many l = let z = at false (le-ltb (suc s.tries) r.tries l) in let d = down (Rattle.model.specs.Keyed.every Rattle.model.specs.Server.is_over end.channels) in
          (ap (λ (y : Did (Server S E) ToClient). y.side.up) z ∙ d.0, ap (λ (y : Did (Server S E) ToClient). y.sends) z, ap (λ (y : Did (Server S E) ToClient). y.side.tries) z ∙ d.1)
