-- Worked cases, each a row of one table, played by the definitions under the real limits. Assumes nothing.
use Rattle.std.specs.Prelude.{◌≡◌, ℕ, zero, suc, ◌+◌, ◌%◌, Bool, true, false, cond, not, ◌&&◌, nat_le, ◌⊎◌, List, [], ◌∷◌, ◌++◌, reverse, length, take, replicate, Some, None, Option, ◌==◌}
use Rattle.std.proofs.Common.{inl, inr}
use Rattle.model.specs.Keyed.{every, gather}
use Rattle.model.specs.Messages.{Rules, real, Does, Reads, Writes, Ends, GoesOn, Programs, ToServer, Login, Tick, For, ToClient, Accepted, Tock, Of, Run, Input, OutputCredit, Eof, Close, Runs, Output, InputCredit, Exit, is_some}
use Rattle.model.specs.Client.{ClientChannel, LogIn, Start, Enter, Finish, channel_at, Phase, Asked, Running, Refused, Closed}
use Rattle.model.specs.Server.{ServerChannel, channel_of, is_empty}
use Rattle.model.specs.World.{World, Event, User, Turn, ArriveThere, ArriveHere, CutHere, CutThere, after}
use Rattle.model.specs.Files.{Files, fresh, device, same, file_of, free}
use Rattle.model.specs.Rows.{Playing, rows, beside}
use Rattle.model.specs.Put.{Storing, storage, four_bytes}

-- users log in by their number; user 2 may not run command 3
abbrev pub accepts : ℕ → ℕ → List ℕ → Bool
accepts connection user proof = same (user ∷ []) proof

abbrev pub may : ℕ → ℕ → Bool
may user command = not (user == 2 && command == 3)

abbrev pub limits : Rules
limits = real accepts may

abbrev pub five : List ℕ
five = 1 ∷ (2 ∷ (3 ∷ (4 ∷ (5 ∷ []))))

-- command 3 writes 5 bytes and ends; 4 reads on; 5 writes on, 1,024 bytes a turn; 6 writes 5 bytes twice and ends; others only go on
abbrev pub table : ℕ → List Does
table k =
    cond (k == 3) (Writes five ∷ (Ends 0 ∷ []))
    (cond (k == 4) (Reads 1024 ∷ [])
    (cond (k == 5) (Writes (replicate 1024 7) ∷ [])
    (cond (k == 6) (Writes five ∷ (Writes five ∷ (Ends 0 ∷ []))) (GoesOn ∷ []))))

-- any digest of 32 bytes does: here the sum of the bytes, 32 times
unfoldable pub sum : List ℕ → ℕ
sum [] = 0
sum (b ∷ bs) = b + sum bs

abbrev pub digest : List ℕ → List ℕ
digest bytes = replicate 32 (sum bytes % 256)

-- commands 254 and 255 are put and get
abbrev pub programs : Programs (Playing ⊎ Storing) Files
programs = beside (rows table) (storage device digest) (λ k. nat_le 254 k)

abbrev pub Place : Type 0
Place = World (Playing ⊎ Storing) Files

-- the world after events, the first first
abbrev pub played : List Event → Place
played vs = after limits programs (fresh (λ b. [])) (reverse vs)

-- a stage of a case: what is played, and what then holds
pub record Stage : Type 0 where
  pub plays : List Event
  pub holds : Place → Bool

abbrev pub stage : List Event → (Place → Bool) → Stage
stage vs f = record { plays = vs; holds = f }

-- whether all stages hold, each after all before it
unfoldable pub all_hold : List Event → List Stage → Bool
all_hold past [] = true
all_hold past (x ∷ xs) = x.holds (played (past ++ x.plays)) && all_hold (past ++ x.plays) xs

unfoldable pub times : ℕ → List Event → List Event
times zero vs = []
times (suc n) vs = vs ++ times n vs

-- user u logs in; a command is started as channel t; all that is sent arrives
abbrev pub logged_in : ℕ → List Event
logged_in u = User (LogIn u (u ∷ [])) ∷ (ArriveThere ∷ (ArriveHere ∷ []))

abbrev pub started : ℕ → ℕ → List Event
started t k = User (Start t k) ∷ (ArriveThere ∷ (ArriveHere ∷ (ArriveHere ∷ [])))

abbrev pub cut : List Event
cut = CutHere ∷ (CutThere ∷ [])

-- What the client has of a channel.
abbrev pub got_in : Option ClientChannel → List ℕ
got_in None = []
got_in (Some x) = x.got

abbrev pub exit_in : Option ClientChannel → Option ℕ
exit_in None = None
exit_in (Some x) = x.exit

abbrev pub sent_in : Option ClientChannel → ℕ
sent_in None = 0
sent_in (Some x) = x.sent

abbrev pub is_running : Phase → Bool
is_running Asked = false
is_running Running = true
is_running Refused = false
is_running Closed = false

abbrev pub is_refused : Phase → Bool
is_refused Asked = false
is_refused Running = false
is_refused Refused = true
is_refused Closed = false

abbrev pub phase_in : (Phase → Bool) → Option ClientChannel → Bool
phase_in f None = false
phase_in f (Some x) = f x.phase

abbrev pub got : ℕ → Place → List ℕ
got t w = got_in (channel_at t w.client)

abbrev pub is_status : Option ℕ → ℕ → Bool
is_status None n = false
is_status (Some m) n = m == n

abbrev pub told_exit : ℕ → ℕ → Place → Bool
told_exit t n w = is_status (exit_in (channel_at t w.client)) n

abbrev pub told_no_exit : ℕ → Place → Bool
told_no_exit t w = not (is_some (exit_in (channel_at t w.client)))

-- What the server has of a channel.
abbrev pub input_in : Option (ServerChannel (Playing ⊎ Storing)) → List ℕ
input_in None = []
input_in (Some x) = x.input

abbrev pub wrote_in : Option (ServerChannel (Playing ⊎ Storing)) → List ℕ
wrote_in None = []
wrote_in (Some x) = x.wrote

abbrev pub said_in : Option (ServerChannel (Playing ⊎ Storing)) → Bool
said_in None = false
said_in (Some x) = x.said

abbrev pub read_by : Playing ⊎ Storing → List ℕ
read_by (inl x) = x.got
read_by (inr x) = []

abbrev pub told_eof : Playing ⊎ Storing → Bool
told_eof (inl x) = x.told
told_eof (inr x) = false

abbrev pub read_in : Option (ServerChannel (Playing ⊎ Storing)) → List ℕ
read_in None = []
read_in (Some x) = read_by x.state

abbrev pub told_eof_in : Option (ServerChannel (Playing ⊎ Storing)) → Bool
told_eof_in None = false
told_eof_in (Some x) = told_eof x.state

-- What is on the way: inputs there, each by its length; the exit of a channel back.
abbrev pub input_length : ToServer → List ℕ
input_length (Login u p) = []
input_length Tick = []
input_length (For t (Run k)) = []
input_length (For t (Input bs)) = length bs ∷ []
input_length (For t (OutputCredit n)) = []
input_length (For t Eof) = []
input_length (For t Close) = []

abbrev pub exit_status : ToClient → List ℕ
exit_status (Accepted b) = []
exit_status Tock = []
exit_status (Of t (Runs b)) = []
exit_status (Of t (Output bs)) = []
exit_status (Of t (InputCredit n)) = []
exit_status (Of t (Exit n)) = n ∷ []

abbrev pub is_prefix : List ℕ → List ℕ → Bool
is_prefix xs ys = nat_le (length xs) (length ys) && same xs (take (length xs) ys)

-- 0, 1, 2 and so on, modulo 251
unfoldable pub bytes_from : ℕ → ℕ → List ℕ
bytes_from zero k = []
bytes_from (suc n) k = k % 251 ∷ bytes_from n (suc k)

abbrev pub is_file : Option (List ℕ) → List ℕ → Bool
is_file None bytes = false
is_file (Some old) bytes = same old bytes

-- A. Channel 1 runs command 3, which writes 5 bytes and ends with 0: the client gets 5 bytes, then exit 0.
abbrev pub case_a : List Stage
case_a =
    stage (logged_in 1 ++ started 1 3 ++ (Turn 1 ∷ (Turn 1 ∷ (ArriveHere ∷ [])))) (λ w. same (got 1 w) five && told_no_exit 1 w) ∷
    (stage (ArriveHere ∷ []) (λ w. same (got 1 w) five && told_exit 1 0 w) ∷ [])

-- B. 10,000 bytes are typed in channel 1: 8,192 go, in 8 messages, and the rest when, after reads, the window was told to be open again.
abbrev pub case_b : List Stage
case_b =
    stage (logged_in 1 ++ started 1 4 ++ (User (Enter 1 (bytes_from 10000 0)) ∷ [])) (λ w. same (gather input_length w.there) (replicate 8 1024) && sent_in (channel_at 1 w.client) == 8192) ∷
    (stage (times 8 (ArriveThere ∷ [])) (λ w. same (input_in (channel_of 1 w.server)) (bytes_from 8192 0) && length w.there == 0) ∷
    (stage (times 8 (Turn 1 ∷ [])) (λ w. same (read_in (channel_of 1 w.server)) (bytes_from 8192 0) && length w.there == 0) ∷
    (stage (times 2 (ArriveHere ∷ [])) (λ w. same (gather input_length w.there) (1024 ∷ (784 ∷ [])) && sent_in (channel_at 1 w.client) == 10000) ∷
    (stage (times 2 (ArriveThere ∷ [])) (λ w. same (input_in (channel_of 1 w.server)) (bytes_from 10000 0)) ∷ []))))

-- C. In channel 2 nobody takes: 8,192 bytes come and its program waits, however many turns it has; channel 1 goes on.
abbrev pub case_c : List Stage
case_c =
    stage (logged_in 1 ++ started 1 3 ++ started 2 5 ++ times 9 (Turn 2 ∷ []) ++ times 8 (ArriveHere ∷ []))
    (λ w. same (got 2 w) (replicate 8192 7) && (length (wrote_in (channel_of 2 w.server)) == 9216 && length w.back == 0)) ∷
    (stage (times 20 (Turn 2 ∷ [])) (λ w. (length (got 2 w) == 8192) && (length (wrote_in (channel_of 2 w.server)) == 9216 && length w.back == 0)) ∷
    (stage (Turn 1 ∷ (Turn 1 ∷ (ArriveHere ∷ (ArriveHere ∷ [])))) (λ w. same (got 1 w) five && (told_exit 1 0 w && length (got 2 w) == 8192)) ∷ []))

-- D. The connection is cut after the exit was sent and has not arrived: the client is told no exit, and what came is a prefix.
abbrev pub case_d : List Stage
case_d =
    stage (logged_in 1 ++ started 1 6 ++ times 3 (Turn 1 ∷ []) ++ (ArriveHere ∷ [])) (λ w. said_in (channel_of 1 w.server) && same (gather exit_status w.back) (0 ∷ [])) ∷
    (stage (cut ++ times 3 (ArriveHere ∷ [])) (λ w. told_no_exit 1 w && (same (got 1 w) five && (is_prefix (got 1 w) (wrote_in (channel_of 1 w.server)) && same (wrote_in (channel_of 1 w.server)) (five ++ five)))) ∷ [])

-- E. User 2 may not run command 3: it does not run. (Another command does.)
abbrev pub case_e : List Stage
case_e =
    stage (logged_in 2 ++ started 1 3 ++ times 3 (Turn 1 ∷ (ArriveHere ∷ []))) (λ w. phase_in is_refused (channel_at 1 w.client) && (length w.server.channels == 0 && (length (got 1 w) == 0 && told_no_exit 1 w))) ∷
    (stage (started 2 4) (λ w. phase_in is_running (channel_at 2 w.client) && length w.server.channels == 1) ∷ [])

-- the name "a", in bytes as put reads it
abbrev pub name_a : List ℕ
name_a = 1 ∷ (97 ∷ [])

abbrev pub old_file : List ℕ
old_file = 7 ∷ (8 ∷ (9 ∷ []))

-- what is typed for a put of "a"
abbrev pub put_a : List ℕ → List ℕ → List ℕ
put_a bytes sum = name_a ++ (four_bytes (length bytes) ++ (bytes ++ sum))

-- bytes are typed in channel t and arrive in so many messages; its program has so many turns; so many messages arrive here
abbrev pub typed : (t messages turns back : ℕ) → List ℕ → List Event
typed t m n b bytes = (User (Enter t bytes) ∷ times m (ArriveThere ∷ [])) ++ times n (Turn t ∷ []) ++ times b (ArriveHere ∷ [])

-- F. A put of 100 bytes, cut after 99, with the turns that it has left played to the end: the name has the old file.
abbrev pub case_f : List Stage
case_f =
    stage (logged_in 1 ++ started 1 254 ++ typed 1 1 6 6 (put_a old_file (digest old_file)) ++ (ArriveThere ∷ []))
    (λ w. told_exit 1 0 w && (is_file (file_of (97 ∷ []) w.server.env) old_file && length w.server.env.puts == 0)) ∷
    (stage (started 2 254 ++ typed 2 1 4 0 (name_a ++ (four_bytes 100 ++ bytes_from 99 0)))
    (λ w. (length (input_in (channel_of 2 w.server)) == 105) && (length w.server.env.puts == 1 && is_file (file_of (97 ∷ []) w.server.env) old_file)) ∷
    (stage (cut ++ times 64 (Turn 2 ∷ [])) (λ w. is_empty w.server && (is_file (file_of (97 ∷ []) w.server.env) old_file && (length w.server.env.puts == 0 && told_no_exit 2 w))) ∷ []))

-- G. Eof after 3 bytes: the program reads 3, then is told that no more will come.
abbrev pub case_g : List Stage
case_g =
    stage (logged_in 1 ++ started 1 4 ++ (User (Enter 1 (1 ∷ (2 ∷ (3 ∷ [])))) ∷ (User (Finish 1) ∷ (ArriveThere ∷ (ArriveThere ∷ (Turn 1 ∷ []))))))
    (λ w. same (read_in (channel_of 1 w.server)) (1 ∷ (2 ∷ (3 ∷ []))) && not (told_eof_in (channel_of 1 w.server))) ∷
    (stage (Turn 1 ∷ []) (λ w. same (read_in (channel_of 1 w.server)) (1 ∷ (2 ∷ (3 ∷ []))) && told_eof_in (channel_of 1 w.server)) ∷ [])

abbrev pub new_file : List ℕ
new_file = bytes_from 600 0

-- H. A put of 600 bytes over an old file ends with 0, and the name has the new one; a get then writes its length, its bytes and its digest, and ends with 0.
abbrev pub case_h : List Stage
case_h =
    stage (logged_in 1 ++ started 1 254 ++ typed 1 1 6 6 (put_a old_file (digest old_file)) ++ (ArriveThere ∷ [])) (λ w. is_file (file_of (97 ∷ []) w.server.env) old_file) ∷
    (stage (started 2 254 ++ typed 2 1 7 7 (put_a new_file (digest new_file)) ++ (ArriveThere ∷ [])) (λ w. told_exit 2 0 w && is_file (file_of (97 ∷ []) w.server.env) new_file) ∷
    (stage (started 3 255 ++ typed 3 1 7 7 name_a) (λ w. told_exit 3 0 w && (same (got 3 w) (four_bytes 600 ++ (new_file ++ digest new_file)) && length w.server.env.gets == 0)) ∷ []))

-- I. A put ends with 9 for a bad name, with 10 where there is no room, with 11 where the digest does not fit or the input ends early; a get of a name that has no file ends with 9. The name then has no file, and all blocks are free.
abbrev pub case_i : List Stage
case_i =
    stage (logged_in 1 ++ started 1 254 ++ typed 1 1 3 3 (1 ∷ (65 ∷ [])) ++ (ArriveThere ∷ [])) (λ w. told_exit 1 9 w) ∷
    (stage (started 2 254 ++ typed 2 1 4 4 (name_a ++ four_bytes 1048577) ++ (ArriveThere ∷ [])) (λ w. told_exit 2 10 w) ∷
    (stage (started 3 254 ++ typed 3 1 6 6 (put_a old_file (digest new_file)) ++ (ArriveThere ∷ [])) (λ w. told_exit 3 11 w) ∷
    (stage (started 4 254 ++ (User (Enter 4 name_a) ∷ (User (Finish 4) ∷ (ArriveThere ∷ (ArriveThere ∷ [])))) ++ times 4 (Turn 4 ∷ []) ++ times 3 (ArriveHere ∷ []) ++ (ArriveThere ∷ [])) (λ w. told_exit 4 11 w) ∷
    (stage (started 5 255 ++ typed 5 1 3 3 name_a) (λ w. told_exit 5 9 w && (not (is_some (file_of (97 ∷ []) w.server.env)) && (length w.server.env.puts == 0 && length (free device w.server.env) == 2048))) ∷ []))))

abbrev pub cases : List (List Stage)
cases = case_a ∷ (case_b ∷ (case_c ∷ (case_d ∷ (case_e ∷ (case_f ∷ (case_g ∷ (case_h ∷ (case_i ∷ []))))))))

-- Every case holds of the definitions.
abbrev pub CasesHold : Type 0
CasesHold = every (all_hold []) cases ≡ true
