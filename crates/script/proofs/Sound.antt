-- What is read is good commands.
use Rattle.std.proofs.Common.{ℕ, ◌+◌, ◌≤◌, ◌&&◌, leb, List, [], ◌∷◌, length, IfOk, Some, None, Ok, Err, codes, Option, Result}
use Rattle.std.specs.Option.{option_map}
use Rattle.std.specs.List.{AllByRecursion}
use Rattle.std.specs.Str.{bytes_eq}
use Rattle.std.proofs.lemmas.Bool.{cond_both, and_parts, leb-true}
use Rattle.token.specs.Bytes.{bytes_of}
use Rattle.token.specs.Words.{words_of}
use Rattle.token.specs.declared.mode.Mode.TheVariants.{Plain}
use Rattle.token.proofs.Sound.{If, number-range, bytes-text}
use Rattle.command.specs.Arguments.{one_of, two_of}
use Rattle.command.specs.Keywords.{keyword_of}
use Rattle.command.specs.Meaning.{user_of, byte_of, short_of, wide_of, open_of, way_of, ends_of, none, read_one, both, read_two}
use Rattle.command.specs.Orders.{Step, write, go, Order, user, may, program, login, run, input, close, takes, turn, round, arrive, tick, cuts, connect}
use Rattle.command.specs.Programs.{counted_of, action_of, ahead, is_go, steps_of, limited}
use Rattle.command.specs.Said.{command_of}
use Rattle.command.specs.declared.keyword.Keyword.{Keyword}
use Rattle.command.specs.declared.keyword.Keyword.TheVariants as k
use Rattle.script.specs.Good.{GoodUser, GoodByte, GoodShort, GoodWide, GoodBytes, GoodStep, GoodRow, Good, ReadsGood}
use Rattle.script.specs.Lines.{called_of, worded_of, line_of, lines_of, then, from_line}

only_high : (low high : ℕ) (o : Option ℕ) → If o (λ n. (low ≤ n) × (n ≤ high)) → If o (λ n. n ≤ high)
only_high low high None h = tt
only_high low high (Some n) h = h.1

user-good : (w : List ℕ) → If (user_of w) GoodUser
user-good w = number-range 1 255 w

byte-good : (w : List ℕ) → If (byte_of w) GoodByte
byte-good w = only_high 0 255 (byte_of w) (number-range 0 255 w)

short-good : (w : List ℕ) → If (short_of w) GoodShort
short-good w = only_high 0 65535 (short_of w) (number-range 0 65535 w)

wide_good : (w : List ℕ) → If (wide_of w) GoodWide
wide_good w = only_high 0 4294967295 (wide_of w) (number-range 0 4294967295 w)

any : {A : Type 0} (o : Option A) → If o (λ _. Unit {0})
any None = tt
any (Some x) = tt

one-good : {A : Type 0} (P : A → Type 0) (order : A → Order) (p : List ℕ → Option A) → ((w : List ℕ) → If (p w) P) → ((x : A) → P x → Good (order x)) → (o : Option (List ℕ)) → If (read_one order p o) Good
one-good P order p h k None = tt
one-good P order p h k (Some w) = made (p w) (h w)
  where
    made : (o : Option _) → If o P → If (option_map order o) Good
    made None g = tt
    made (Some x) g = k x g

both-good : {A B : Type 0} (P : A → Type 0) (Q : B → Type 0) (order : A → B → Order) (x : Option A) (y : Option B) → If x P → If y Q → ((a : A) (b : B) → P a → Q b → Good (order a b)) → If (both order x y) Good
both-good P Q order None y g h k = tt
both-good P Q order (Some a) None g h k = tt
both-good P Q order (Some a) (Some b) g h k = k a b g h

two_good : {A B : Type 0} (P : A → Type 0) (Q : B → Type 0) (order : A → B → Order) (p : List ℕ → Option A) (q : List ℕ → Option B) → ((w : List ℕ) → If (p w) P) → ((w : List ℕ) → If (q w) Q) → ((a : A) (b : B) → P a → Q b → Good (order a b)) → (o : Option (List ℕ × List ℕ)) → If (read_two order p q o) Good
two_good P Q order p q g h k None = tt
two_good P Q order p q g h k (Some ws) = both-good P Q order (p ws.0) (q ws.1) (g ws.0) (h ws.1) k

none-good : (o : Order) → Good o → (args : List (List ℕ)) → If (none o args) Good
none-good o g [] = g
none-good o g (w ∷ ws) = tt

counted-good : (w : List ℕ) (o : Option ℕ) → If o GoodShort → If (counted_of w o) GoodStep
counted-good w None g = tt
counted-good w (Some n) g =
    cond_both (bytes_eq w (codes "read")) _ _ (λ o. If o GoodStep) (λ t. g)
    (λ f. cond_both (bytes_eq w (codes "end")) _ _ (λ o. If o GoodStep) (λ t. g) (λ f. tt))

action-good : (w x : List ℕ) → If (action_of w x) GoodStep
action-good w x =
    cond_both (bytes_eq w (codes "write")) _ _ (λ o. If o GoodStep) (λ t. made (bytes_of x) (bytes-text x)) (λ f. counted-good w (short_of x) (short-good x))
  where
    made : (o : Option (List ℕ)) → If o GoodBytes → If (option_map write o) GoodStep
    made None g = tt
    made (Some bs) g = g

ahead-good : (o : Option Step) (r : Option (List Step)) → If o GoodStep → If r (AllByRecursion GoodStep) → If (ahead o r) (AllByRecursion GoodStep)
ahead-good None r g h = tt
ahead-good (Some s) None g h = tt
ahead-good (Some s) (Some ss) g h = (g, h)

steps-good : (ws : List (List ℕ)) → If (steps_of ws) (AllByRecursion GoodStep)
unfolding steps_of
steps-good [] = tt
steps-good (w ∷ []) = cond_both (is_go w) _ _ (λ o. If o (AllByRecursion GoodStep)) (λ t. (tt, tt)) (λ f. tt)
steps-good (w ∷ x ∷ ws) =
    cond_both (is_go w) _ _ (λ o. If o (AllByRecursion GoodStep)) (λ t. ahead-good (Some go) (steps_of (x ∷ ws)) tt (steps-good (x ∷ ws))) (λ f. ahead-good (action_of w x) (steps_of ws) (action-good w x) (steps-good ws))

limited-good : (o : Option (List Step)) → If o (AllByRecursion GoodStep) → If (limited o) GoodRow
limited-good None g = tt
limited-good (Some ss) g =
    cond_both (leb 1 (length ss) && leb (length ss) 64) _ _ (λ o. If o GoodRow)
    (λ t. let p = and_parts (leb 1 (length ss)) (leb (length ss) 64) t in (g, leb-true 1 (length ss) p.0, leb-true (length ss) 64 p.1))
    (λ f. tt)

command-good : (key : Keyword) (args : List (List ℕ)) → If (command_of key args) Good
command-good k.User args = two_good GoodUser (λ _. Unit {0}) user user_of open_of user-good (λ w. any (open_of w)) (λ a b g h. g) (two_of args)
command-good k.May args = two_good GoodUser GoodByte may user_of byte_of user-good byte-good (λ a b g h. (g, h)) (two_of args)
command-good k.Program [] = tt
command-good k.Program (w ∷ ws) = both-good GoodByte GoodRow program (byte_of w) (limited (steps_of ws)) (byte-good w) (limited-good (steps_of ws) (steps-good ws)) (λ a b g h. (g, h))
command-good k.Login args = one-good GoodUser login user_of user-good (λ x g. g) (one_of args)
command-good k.Run args = two_good GoodWide GoodByte run wide_of byte_of wide_good byte-good (λ a b g h. (g, h)) (two_of args)
command-good k.Input args = two_good GoodWide GoodBytes input wide_of bytes_of wide_good bytes-text (λ a b g h. (g, h)) (two_of args)
command-good k.Close args = one-good GoodWide close wide_of wide_good (λ x g. g) (one_of args)
command-good k.Take args = two_good GoodWide GoodWide takes wide_of wide_of wide_good wide_good (λ a b g h. (g, h)) (two_of args)
command-good k.Turn args = one-good GoodWide turn wide_of wide_good (λ x g. g) (one_of args)
command-good k.Round args = none-good round tt args
command-good k.Arrive args = one-good (λ _. Unit {0}) arrive way_of (λ w. any (way_of w)) (λ x g. tt) (one_of args)
command-good k.Tick args = none-good tick tt args
command-good k.Cut args = one-good (λ _. Unit {0}) cuts ends_of (λ w. any (ends_of w)) (λ x g. tt) (one_of args)
command-good k.Connect args = none-good connect tt args

called-good : (key : Option Keyword) (args : List (List ℕ)) → If (called_of key args) (λ o. If o Good)
called-good None args = tt
called-good (Some key) args = made (command_of key args) (command-good key args)
  where
    made : (o : Option Order) → If o Good → If (option_map Some o) (λ o. If o Good)
    made None g = tt
    made (Some x) g = g

line-good : (l : List ℕ) → If (line_of l) (λ o. If o Good)
line-good l = go (words_of Plain [] l)
  where
    go : (o : Option (List (List ℕ))) → If (worded_of o) (λ o. If o Good)
    go None = tt
    go (Some []) = tt
    go (Some (w ∷ ws)) = called-good (keyword_of w) ws

abbrev GoodSo : Result (List Order) ℕ → Type 0
GoodSo r = IfOk r (AllByRecursion Good)

then-good : (n : ℕ) (said : Option (Option Order)) (rest : Result (List Order) ℕ) → If said (λ o. If o Good) → GoodSo rest → GoodSo (then n said rest)
then-good n None rest g h = tt
then-good n (Some None) rest g h = h
then-good n (Some (Some o)) (Ok os) g h = (g, h)
then-good n (Some (Some o)) (Err k) g h = tt

from-good : (n : ℕ) (ls : List (List ℕ)) → GoodSo (from_line n ls)
unfolding from_line
from-good n [] = tt
from-good n (l ∷ ls) = then-good (n + 1) (line_of l) (from_line (n + 1) ls) (line-good l) (from-good (n + 1) ls)

pub reads-good : ReadsGood
reads-good text = from-good 0 (lines_of text)
