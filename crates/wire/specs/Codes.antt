-- How messages of one way stand as bytes. Assumes nothing.
use Rattle.std.specs.Prelude.{ℕ, Bool, List}
use Rattle.message.specs.Views.{to_client, to_server}
use Rattle.message.specs.declared.to_client.ToClient.{ToClient}
use Rattle.message.specs.declared.to_server.ToServer.{ToServer}
use Rattle.model.specs.Messages as model
use Rattle.wire.specs.Inside.{GoodToClient, GoodToServer, known_by, known_client, known_server, to_client_bytes, to_server_bytes}

-- Said: what messages say; sendable: whether that can be sent; written: its inside; known: whether some message is written so
pub record CodeBy (Known : Type 0) (M : Type 0) : Type 1 where
  pub Said : Type 0
  pub said : M → Said
  pub sendable : Said → Type 0
  pub written : Said → List ℕ
  pub known : Known

-- the same of a message as the code holds it
module _ {Known M : Type 0} (code : CodeBy Known M) where
  abbrev pub IsSendable : M → Type 0
  IsSendable m = code.sendable (code.said m)

  abbrev pub inside_of : M → List ℕ
  inside_of m = code.written (code.said m)

-- known by the whole inside
abbrev pub Code : Type 0 → Type 1
Code = CodeBy (List ℕ → Bool)

-- known by the head and the rest
abbrev pub HeadCode : Type 0 → Type 1
HeadCode = CodeBy ((kind channel : ℕ) → List ℕ → Bool)

module _ {M : Type 0} (code : HeadCode M) where
  abbrev pub is_known : List ℕ → Bool
  is_known = known_by code.known

  abbrev pub whole_code : Code M
  whole_code = record { Said = code.Said; said = code.said; sendable = code.sendable; written = code.written; known = is_known }

abbrev pub to_server_heads : HeadCode ToServer
to_server_heads =
    record { Said = model.ToServer; said = to_server; sendable = GoodToServer; written = to_server_bytes; known = known_server }

abbrev pub to_client_heads : HeadCode ToClient
to_client_heads =
    record { Said = model.ToClient; said = to_client; sendable = GoodToClient; written = to_client_bytes; known = known_client }

abbrev pub to_server_code : Code ToServer
to_server_code = whole_code to_server_heads

abbrev pub to_client_code : Code ToClient
to_client_code = whole_code to_client_heads
