-- The promise of insides as one of messages.
use Rattle.std.proofs.Common.{◌≡◌, ℕ, Bool, ◌⊎◌, List, [], ◌∷◌, ◌++◌, map, sym, refl, ap, ◌∙◌, inl, inr}
use Rattle.std.proofs.lemmas.List.{map-append}
use Rattle.wire.specs.Inside.{GoodToClient, GoodToServer, known_to_client, known_to_server, to_client_by, to_client_bytes, to_server_by, to_server_bytes}
use Rattle.wire.specs.Back.{to-client-back, to-server-back}
use Rattle.seal.specs.declared.secret.Secret.{Secret}
use Rattle.stream.specs.Streams.{feed, start}
use Rattle.stream.specs.Promises.{EachGood, Forged, GenuineToClient, GenuineToServer, Prefix}
use Rattle.stream.proofs.Genuinely.{genuine}

module _ {X : Type 0} (good : X → Type 0) (write : X → List ℕ) (by : List ℕ → X) (back : (m : X) → good m → by (write m) ≡ m) where
  all_back : (ms : List X) → EachGood good ms → map by (map write ms) ≡ ms
  unfolding EachGood
  all_back [] h = refl
  all_back (m ∷ ms) h = λ i. back m h.0 i ∷ all_back ms h.1 i

  pub meant : (ms : List X) → EachGood good ms → (s : Secret) (known : List ℕ → Bool) (bytes : List ℕ)
      → Prefix (feed s known start bytes).taken (map write ms) ⊎ Forged s (map write ms) bytes
      → ((rest : List X) × (map by (feed s known start bytes).taken ++ rest ≡ ms)) ⊎ Forged s (map write ms) bytes
  meant ms h s known bytes (inr f) = inr f
  meant ms h s known bytes (inl p) =
      let t : List (List ℕ) = (feed s known start bytes).taken in
      inl (map by p.0, sym (map-append by t p.0) ∙ ap (map by) p.1 ∙ all_back ms h)

pub genuine-to-server : GenuineToServer
genuine-to-server s sent bytes h =
    meant GoodToServer to_server_bytes to_server_by (λ m g. (to-server-back m g).0) sent h s known_to_server bytes (genuine s known_to_server (map to_server_bytes sent) bytes)

pub genuine-to-client : GenuineToClient
genuine-to-client s sent bytes h =
    meant GoodToClient to_client_bytes to_client_by (λ m g. (to-client-back m g).0) sent h s known_to_client bytes (genuine s known_to_client (map to_client_bytes sent) bytes)
