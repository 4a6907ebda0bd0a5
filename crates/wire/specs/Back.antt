-- What is written is known, and is read back.
use Rattle.std.specs.Prelude.{◌≡◌, ℕ, ◌+◌, ◌*◌, ◌/◌, ◌%◌, ◌^◌, ◌<◌, ◌≤◌, Bool, true, false, cond, List, ◌∷◌, length, drop, ◌≢◌, nat_lt, slice_index, slice_index_or, refl}
use Rattle.std.proofs.Common.{sym, ◌∙◌, ap, arith, rules}
use Rattle.std.proofs.lemmas.Bool.Decides.{nat_tests}
use Rattle.model.specs.Messages.{Request, Run, Input, OutputCredit, Eof, Close, Reply, Runs, Output, InputCredit, Exit, ToServer, Login, Tick, For, ToClient, Accepted, Tock, Of}
use Rattle.wire.specs.Codes.{Code}
use Rattle.wire.specs.Kinds.{IsNoKind}
use Rattle.wire.specs.declared.kind.Kind.TheVariants as kind
use Rattle.wire.specs.Inside.{known_client, known_server, to_server_bytes, to_client_bytes, to_server_by, to_client_by, request_by, request_kind, request_rest, reply_by, reply_kind, reply_rest, GoodRequest, GoodReply, GoodToServer, GoodToClient, known_to_server, known_to_client, known_request, known_reply, ToServerBack, ToClientBack, ToServerApart, ToClientApart, bytes32, inside, known_by, number32, IsPart, known_part, IsCredit, known_credit}

channel-back : (t : ℕ) → t < 65536 → t / 256 % 256 * 256 + t % 256 ≡ t
channel-back t h = omega arith

number-back : (n : ℕ) → n < 2 ^ 32 → number32 (bytes32 n) ≡ n
number-back n h =
    let a : n / 16777216 ≡ n / 16777216 % 256 = omega arith in
    let b : n / 65536 ≡ n / 16777216 * 256 + n / 65536 % 256 = omega arith in
    let c : n / 256 ≡ n / 65536 * 256 + n / 256 % 256 = omega arith in
    let d : n ≡ n / 256 * 256 + n % 256 = omega arith in
    omega arith

part-known : (bs : List ℕ) → IsPart bs → known_part bs ≡ true
part-known bs h = search rules

credit-known : (n : ℕ) → IsCredit n → known_credit (bytes32 n) ≡ true
credit-known n h = let e : number32 (bytes32 n) ≡ n = number-back n h.1 in search rules

-- a request and a reply by themselves
request-back : (q : Request) → GoodRequest q
    → (request_by (request_kind q) (request_rest q) ≡ q) × (known_request (request_kind q) (request_rest q) ≡ true)
request-back (Run k) h = (refl, refl)
request-back (Input bs) h = (refl, part-known bs h)
request-back (OutputCredit n) h = (ap OutputCredit (number-back n h.1), credit-known n h)
request-back Eof h = (refl, refl)
request-back Close h = (refl, refl)

reply-back : (q : Reply) → GoodReply q → (reply_by (reply_kind q) (reply_rest q) ≡ q) × (known_reply (reply_kind q) (reply_rest q) ≡ true)
reply-back (Runs true) h = (refl, refl)
reply-back (Runs false) h = (refl, refl)
reply-back (Output bs) h = (refl, part-known bs h)
reply-back (InputCredit n) h = (ap InputCredit (number-back n h.1), credit-known n h)
reply-back (Exit s) h = (refl, refl)

long : (k h l : ℕ) (bs : List ℕ) → nat_lt (length (k ∷ h ∷ l ∷ bs)) 3 ≡ false
long k h l bs = search rules

-- a message of a channel: its kind is none of those without one
for-by : (t : ℕ) (q : Request) → to_server_by (to_server_bytes (For t q)) ≡ For (t / 256 % 256 * 256 + t % 256) (request_by (request_kind q) (request_rest q))
for-by t (Run k) = refl
for-by t (Input bs) = refl
for-by t (OutputCredit n) = refl
for-by t Eof = refl
for-by t Close = refl

for-known : (t : ℕ) (q : Request) → known_to_server (to_server_bytes (For t q)) ≡ known_request (request_kind q) (request_rest q)
for-known t (Run k) = refl
for-known t (Input bs) = ap (λ (b : Bool). cond b false (known_part bs)) (long 3 (t / 256 % 256) (t % 256) bs)
for-known t (OutputCredit n) = refl
for-known t Eof = refl
for-known t Close = refl

of-by : (t : ℕ) (q : Reply) → to_client_by (to_client_bytes (Of t q)) ≡ Of (t / 256 % 256 * 256 + t % 256) (reply_by (reply_kind q) (reply_rest q))
of-by t (Runs b) = refl
of-by t (Output bs) = refl
of-by t (InputCredit n) = refl
of-by t (Exit s) = refl

of-known : (t : ℕ) (q : Reply) → known_to_client (to_client_bytes (Of t q)) ≡ known_reply (reply_kind q) (reply_rest q)
of-known t (Runs b) = refl
of-known t (Output bs) = ap (λ (b : Bool). cond b false (known_part bs)) (long 18 (t / 256 % 256) (t % 256) bs)
of-known t (InputCredit n) = refl
of-known t (Exit s) = refl

pub to-server-back : ToServerBack
to-server-back (Login u p) h = (refl, let e : length p ≡ 32 = h.2 in let l : 0 < u = h.0 in search rules)
to-server-back Tick h = (refl, refl)
to-server-back (For t q) h =
    let b = request-back q h.1 in
    (for-by t q ∙ (λ i. For (channel-back t h.0 i) (b.0 i)), for-known t q ∙ b.1)

pub to-client-back : ToClientBack
to-client-back (Accepted true) h = (refl, refl)
to-client-back (Accepted false) h = (refl, refl)
to-client-back Tock h = (refl, refl)
to-client-back (Of t q) h =
    let b = reply-back q h.1 in
    (of-by t q ∙ (λ i. Of (channel-back t h.0 i) (b.0 i)), of-known t q ∙ b.1)

pub to-server-apart : ToServerApart
to-server-apart m n gm gn e = sym (to-server-back m gm).0 ∙ ap to_server_by e ∙ (to-server-back n gn).0

pub to-client-apart : ToClientApart
to-client-apart m n gm gn e = sym (to-client-back m gm).0 ∙ ap to_client_by e ∙ (to-client-back n gn).0

-- bytes that are not known are no message, whatever the code
pub never : {M : Type 0} (code : Code M) → ((m : code.Said) → code.sendable m → code.known (code.written m) ≡ true) → (bs : List ℕ)
    → code.known bs ≡ false
    → (m : code.Said)
    → code.sendable m
    → code.written m ≢ bs
never code law bs k m g e =
    let z : true ≡ false = sym (law m g) ∙ ap code.known e ∙ k in
    let y : ◌≡◌ {A = ℕ} 0 1 = cc in omega arith

-- the same of each way
pub never-to-server : (bs : List ℕ) → known_to_server bs ≡ false → (m : ToServer) → GoodToServer m → to_server_bytes m ≢ bs
never-to-server bs k m g e =
    let z : true ≡ false = sym (to-server-back m g).1 ∙ ap known_to_server e ∙ k in
    let y : ◌≡◌ {A = ℕ} 0 1 = cc in omega arith

pub never-to-client : (bs : List ℕ) → known_to_client bs ≡ false → (m : ToClient) → GoodToClient m → to_client_bytes m ≢ bs
never-to-client bs k m g e =
    let z : true ≡ false = sym (to-client-back m g).1 ∙ ap known_to_client e ∙ k in
    let y : ◌≡◌ {A = ℕ} 0 1 = cc in omega arith

either : (b x : Bool) → x ≡ false → cond b false x ≡ false
either true x e = refl
either false x e = e

-- bytes by their head and rest
pub unknown : (known : ℕ → ℕ → List ℕ → Bool) (bs rest : List ℕ) (k t : ℕ) → t < 65536 → bs ≡ inside k t (drop 3 bs) → rest ≡ drop 3 bs
    → known k t rest ≡ false
    → known_by known bs ≡ false
unknown known bs rest k t h e er f =
    let e0 : slice_index_or bs 0 0 ≡ k = ap (λ (v : List ℕ). slice_index v 0) e in
    let e1 : slice_index_or bs 1 0 ≡ t / 256 % 256 = ap (λ (v : List ℕ). slice_index v 1) e in
    let e2 : slice_index_or bs 2 0 ≡ t % 256 = ap (λ (v : List ℕ). slice_index v 2) e in
    let et : slice_index_or bs 1 0 * 256 + slice_index bs 2 ≡ t = (λ i. e1 i * 256 + e2 i) ∙ channel-back t h in
    either (nat_lt (length bs) 3) (known (slice_index bs 0) (slice_index bs 1 * 256 + slice_index bs 2) (drop 3 bs))
    (ap (λ (v : ℕ). known v (slice_index bs 1 * 256 + slice_index bs 2) (drop 3 bs)) e0 ∙ ap (λ (v : ℕ). known k v (drop 3 bs)) et
    ∙ ap (known k t) (sym er)
    ∙ f)

pub whole : (bs rest ws : List ℕ) (k t : ℕ) → bs ≡ inside k t (drop 3 bs) → rest ≡ drop 3 bs → ws ≡ inside k t rest → ws ≡ bs
whole bs rest ws k t e er ew = ew ∙ ap (inside k t) er ∙ sym e

-- the longest is input or output of 1,024 bytes
pub to-server-short : (m : ToServer) → GoodToServer m → length (to_server_bytes m) ≤ 1027
to-server-short (Login u p) h = let e : length p ≡ 32 = h.2 in omega arith
to-server-short Tick h = omega arith
to-server-short (For t (Run k)) h = omega arith
to-server-short (For t (Input bs)) h = let l : length bs ≤ 1024 = h.1.1 in omega arith
to-server-short (For t (OutputCredit n)) h = omega arith
to-server-short (For t Eof) h = omega arith
to-server-short (For t Close) h = omega arith

pub to-client-short : (m : ToClient) → GoodToClient m → length (to_client_bytes m) ≤ 1027
to-client-short (Accepted b) h = omega arith
to-client-short Tock h = omega arith
to-client-short (Of t (Runs b)) h = omega arith
to-client-short (Of t (Output bs)) h = let l : length bs ≤ 1024 = h.1.1 in omega arith
to-client-short (Of t (InputCredit n)) h = omega arith
to-client-short (Of t (Exit k)) h = omega arith

-- a kind that there is not is no kind of either way
pub server-kinds : (n t : ℕ) (rest : List ℕ) → IsNoKind n → known_server n t rest ≡ false
server-kinds n t rest h =
    grind (arith, nat_tests, h kind.Login, h kind.Run, h kind.Input, h kind.OutputCredit, h kind.Eof, h kind.Close, h kind.Tick)

pub client-kinds : (n t : ℕ) (rest : List ℕ) → IsNoKind n → known_client n t rest ≡ false
client-kinds n t rest h =
    grind (arith, nat_tests, h kind.Accepted, h kind.Runs, h kind.Output, h kind.InputCredit, h kind.Exit, h kind.Tock)
