-- A message's inside as bytes: its kind, its channel, then its fields, the high byte first. Assumes nothing.
use Rattle.std.specs.Prelude.{◌≡◌, ℕ, ◌+◌, ◌*◌, ◌/◌, ◌%◌, ◌^◌, ◌<◌, ◌≤◌, ◌⊎◌, Bool, true, false, cond, ◌&&◌, List, [], ◌∷◌, length, drop, ◌==◌, nat_le, nat_lt, slice_index}
use Rattle.wire.specs.Kinds.{IsNoKind, kind_number}
use Rattle.wire.specs.declared.kind.Kind.TheVariants as kind
use Rattle.model.specs.Messages.{Request, Run, Input, OutputCredit, Eof, Close, Reply, Runs, Output, InputCredit, Exit, ToServer, Login, Tick, For, ToClient, Accepted, Tock, Of}

-- a kind, a channel, and the rest
abbrev pub inside : ℕ → ℕ → List ℕ → List ℕ
inside kind channel rest = kind ∷ (channel / 256 % 256) ∷ (channel % 256) ∷ rest

-- no kind and channel stand at the front
abbrev pub IsHeadless : List ℕ → Type 0
IsHeadless bs = (length bs < 3) ⊎ IsNoKind (slice_index bs 0)

-- a number of 32 bits
abbrev pub bytes32 : ℕ → List ℕ
bytes32 n = (n / 16777216 % 256) ∷ (n / 65536 % 256) ∷ (n / 256 % 256) ∷ (n % 256) ∷ []

abbrev pub number32 : List ℕ → ℕ
number32 bs = slice_index bs 0 * 16777216 + slice_index bs 1 * 65536 + slice_index bs 2 * 256 + slice_index bs 3

abbrev pub flag : Bool → ℕ
flag true = 1
flag false = 0

-- To the server.
abbrev pub request_kind : Request → ℕ
request_kind (Run k) = kind_number kind.Run
request_kind (Input bs) = kind_number kind.Input
request_kind (OutputCredit n) = kind_number kind.OutputCredit
request_kind Eof = kind_number kind.Eof
request_kind Close = kind_number kind.Close

abbrev pub request_rest : Request → List ℕ
request_rest (Run k) = k ∷ []
request_rest (Input bs) = bs
request_rest (OutputCredit n) = bytes32 n
request_rest Eof = []
request_rest Close = []

abbrev pub to_server_bytes : ToServer → List ℕ
to_server_bytes (Login u p) = inside (kind_number kind.Login) 0 (u ∷ p)
to_server_bytes Tick = inside (kind_number kind.Tick) 0 []
to_server_bytes (For t q) = inside (request_kind q) t (request_rest q)

-- Back.
abbrev pub reply_kind : Reply → ℕ
reply_kind (Runs b) = kind_number kind.Runs
reply_kind (Output bs) = kind_number kind.Output
reply_kind (InputCredit n) = kind_number kind.InputCredit
reply_kind (Exit s) = kind_number kind.Exit

abbrev pub reply_rest : Reply → List ℕ
reply_rest (Runs b) = flag b ∷ []
reply_rest (Output bs) = bs
reply_rest (InputCredit n) = bytes32 n
reply_rest (Exit s) = s ∷ []

abbrev pub to_client_bytes : ToClient → List ℕ
to_client_bytes (Accepted b) = inside (kind_number kind.Accepted) 0 (flag b ∷ [])
to_client_bytes Tock = inside (kind_number kind.Tock) 0 []
to_client_bytes (Of t m) = inside (reply_kind m) t (reply_rest m)

-- What can be sent: each number fits its bytes; input and output have 1 to 1,024 bytes; a credit and a user are not 0; a login's proof has 32 bytes.
abbrev pub IsPart : List ℕ → Type 0
IsPart bs = (0 < length bs) × (length bs ≤ 1024)

abbrev pub IsCredit : ℕ → Type 0
IsCredit n = (0 < n) × (n < 2 ^ 32)

abbrev pub IsLogin : (user : ℕ) (proof : List ℕ) → Type 0
IsLogin u p = (0 < u) × (u < 256) × (length p ≡ 32)

abbrev pub GoodRequest : Request → Type 0
GoodRequest (Run k) = k < 256
GoodRequest (Input bs) = IsPart bs
GoodRequest (OutputCredit n) = IsCredit n
GoodRequest Eof = Unit {0}
GoodRequest Close = Unit {0}

abbrev pub GoodToServer : ToServer → Type 0
GoodToServer (Login u p) = IsLogin u p
GoodToServer Tick = Unit {0}
GoodToServer (For t q) = (t < 65536) × GoodRequest q

abbrev pub GoodReply : Reply → Type 0
GoodReply (Runs b) = Unit {0}
GoodReply (Output bs) = IsPart bs
GoodReply (InputCredit n) = IsCredit n
GoodReply (Exit s) = s < 256

abbrev pub GoodToClient : ToClient → Type 0
GoodToClient (Accepted b) = Unit {0}
GoodToClient Tock = Unit {0}
GoodToClient (Of t m) = (t < 65536) × GoodReply m

-- The same as a test of bytes: by the kind, whether some message is written so.
abbrev pub known_none : List ℕ → Bool
known_none rest = length rest == 0

abbrev pub known_byte : List ℕ → Bool
known_byte rest = length rest == 1

abbrev pub known_part : List ℕ → Bool
known_part rest = nat_lt 0 (length rest) && nat_le (length rest) 1024

abbrev pub known_credit : List ℕ → Bool
known_credit rest = length rest == 4 && nat_lt 0 (number32 rest)

abbrev pub known_flag : List ℕ → Bool
known_flag rest = length rest == 1 && nat_lt (slice_index rest 0) 2

abbrev pub known_login : List ℕ → Bool
known_login rest = length rest == 33 && nat_lt 0 (slice_index rest 0)

abbrev pub known_request : (kind : ℕ) → List ℕ → Bool
known_request k rest =
    cond (k == kind_number kind.Run) (known_byte rest) (cond (k == kind_number kind.Input) (known_part rest) (cond (k == kind_number kind.OutputCredit) (known_credit rest) (cond (k == kind_number kind.Eof) (known_none rest) (cond (k == kind_number kind.Close) (known_none rest) false))))

abbrev pub known_reply : (kind : ℕ) → List ℕ → Bool
known_reply k rest =
    cond (k == kind_number kind.Runs) (known_flag rest) (cond (k == kind_number kind.Output) (known_part rest) (cond (k == kind_number kind.InputCredit) (known_credit rest) (cond (k == kind_number kind.Exit) (known_byte rest) false)))

abbrev pub known_server : (kind channel : ℕ) → List ℕ → Bool
known_server k t rest = cond (k == kind_number kind.Login) (t == 0 && known_login rest) (cond (k == kind_number kind.Tick) (t == 0 && known_none rest) (known_request k rest))

abbrev pub known_client : (kind channel : ℕ) → List ℕ → Bool
known_client k t rest = cond (k == kind_number kind.Accepted) (t == 0 && known_flag rest) (cond (k == kind_number kind.Tock) (t == 0 && known_none rest) (known_reply k rest))

abbrev pub known_by : (ℕ → ℕ → List ℕ → Bool) → List ℕ → Bool
known_by known bs = cond (nat_lt (length bs) 3) false (known (slice_index bs 0) (slice_index bs 1 * 256 + slice_index bs 2) (drop 3 bs))

abbrev pub known_to_server : List ℕ → Bool
known_to_server = known_by known_server

abbrev pub known_to_client : List ℕ → Bool
known_to_client = known_by known_client

-- The message that bytes stand for, by their kind alone.
abbrev pub request_by : (kind : ℕ) → List ℕ → Request
request_by k rest = cond (k == kind_number kind.Run) (Run (slice_index rest 0)) (cond (k == kind_number kind.Input) (Input rest) (cond (k == kind_number kind.OutputCredit) (OutputCredit (number32 rest)) (cond (k == kind_number kind.Eof) Eof Close)))

abbrev pub reply_by : (kind : ℕ) → List ℕ → Reply
reply_by k rest = cond (k == kind_number kind.Runs) (Runs (slice_index rest 0 == 1)) (cond (k == kind_number kind.Output) (Output rest) (cond (k == kind_number kind.InputCredit) (InputCredit (number32 rest)) (Exit (slice_index rest 0))))

abbrev pub to_server_by : List ℕ → ToServer
to_server_by bs = cond (slice_index bs 0 == kind_number kind.Login) (Login (slice_index bs 3) (drop 4 bs)) (cond (slice_index bs 0 == kind_number kind.Tick) Tick (For (slice_index bs 1 * 256 + slice_index bs 2) (request_by (slice_index bs 0) (drop 3 bs))))

abbrev pub to_client_by : List ℕ → ToClient
to_client_by bs = cond (slice_index bs 0 == kind_number kind.Accepted) (Accepted (slice_index bs 3 == 1)) (cond (slice_index bs 0 == kind_number kind.Tock) Tock (Of (slice_index bs 1 * 256 + slice_index bs 2) (reply_by (slice_index bs 0) (drop 3 bs))))

-- Writing and reading are each other's inverse: what is written is read back, so that two messages are never written alike; and what is written is known.
abbrev pub ToServerBack : Type 0
ToServerBack = (m : ToServer) → GoodToServer m → (to_server_by (to_server_bytes m) ≡ m) × (known_to_server (to_server_bytes m) ≡ true)

abbrev pub ToClientBack : Type 0
ToClientBack = (m : ToClient) → GoodToClient m → (to_client_by (to_client_bytes m) ≡ m) × (known_to_client (to_client_bytes m) ≡ true)

abbrev pub ToServerApart : Type 0
ToServerApart = (m n : ToServer) → GoodToServer m → GoodToServer n → to_server_bytes m ≡ to_server_bytes n → m ≡ n

abbrev pub ToClientApart : Type 0
ToClientApart = (m n : ToClient) → GoodToClient m → GoodToClient n → to_client_bytes m ≡ to_client_bytes n → m ≡ n
