-- What is written of good commands is read as them.
use Rattle.std.proofs.Common.{◌≡◌, ℕ, ◌+◌, ◌^◌, ◌<◌, Bool, true, false, eqb, List, [], ◌∷◌, ◌++◌, Some, Ok, codes, decimal, sym, refl, ap, ◌∙◌, subst, ap₂, append_assoc, arith}
use Rattle.std.specs.Option.{option_map}
use Rattle.std.specs.List.{AllByRecursion}
use Rattle.std.proofs.lemmas.List.Splits.{slice_split_at}
use Rattle.token.specs.Words.{words_of}
use Rattle.token.specs.Written.{quoted_of, unwords_of}
use Rattle.token.proofs.Back.{number-back, number-kept}
use Rattle.token.proofs.BackBytes.{bytes_back, bytes-kept}
use Rattle.token.proofs.Whole.{Kept, OneLine, words_back, unwords_line}
use Rattle.command.specs.Keywords.{keyword_of, named}
use Rattle.command.specs.Meaning.{user_of, byte_of, short_of, wide_of, open_of, way_of, ends_of, both}
use Rattle.command.specs.Orders.{Step, read, write, end, go, Order, user, may, program, login, run, input, close, takes, turn, round, arrive, tick, cuts, connect}
use Rattle.command.specs.Programs.{counted_of, ahead, steps_of, limited}
use Rattle.command.specs.Said.{command_of}
use Rattle.command.specs.declared.keyword.Keyword.{Keyword}
use Rattle.command.specs.declared.keyword.Keyword.TheVariants as k
use Rattle.command.specs.declared.kinds.Ends.{Ends}
use Rattle.command.specs.declared.kinds.Ends.TheVariants as ends
use Rattle.command.specs.declared.kinds.Way.{Way}
use Rattle.command.specs.declared.kinds.Way.TheVariants as way
use Rattle.command.proofs.Rows.{steps-go, steps-two, limit-in}
use Rattle.script.specs.Good.{GoodUser, GoodByte, GoodShort, GoodWide, GoodStep, Good, ReadsBack}
use Rattle.script.specs.Lines.{called_of, worded_of, line_of, lines_of, then, from_line}
use Rattle.command.specs.Written.{steps_words, open_word, way_word, ends_word, line_for}
use Rattle.script.specs.Written.{written_of}

user-back : (u : ℕ) → GoodUser u → user_of (decimal u) ≡ Some u
user-back u g = number-back 1 255 u g.0 g.1 (omega arith)

byte-back : (n : ℕ) → GoodByte n → byte_of (decimal n) ≡ Some n
byte-back n g = number-back 0 255 n (omega arith) g (omega arith)

short_back : (n : ℕ) → GoodShort n → short_of (decimal n) ≡ Some n
short_back n g = number-back 0 65535 n (omega arith) g (omega arith)

wide_back : (n : ℕ) → GoodWide n → wide_of (decimal n) ≡ Some n
wide_back n g = number-back 0 4294967295 n (omega arith) g (omega arith)

open-back : (o : Bool) → open_of (open_word o) ≡ Some o
open-back true = refl
open-back false = refl

open_kept : (o : Bool) → Kept (open_word o)
open_kept true = (refl, omega arith)
open_kept false = (refl, omega arith)

way_back : (w : Way) → way_of (way_word w) ≡ Some w
way_back way.There = refl
way_back way.Here = refl
way_back way.All = refl

way-kept : (w : Way) → Kept (way_word w)
way-kept way.There = (refl, omega arith)
way-kept way.Here = (refl, omega arith)
way-kept way.All = (refl, omega arith)

ends-back : (e : Ends) → ends_of (ends_word e) ≡ Some e
ends-back ends.Here = refl
ends-back ends.Far = refl
ends-back ends.Both = refl

ends-kept : (e : Ends) → Kept (ends_word e)
ends-kept ends.Here = (refl, omega arith)
ends-kept ends.Far = (refl, omega arith)
ends-kept ends.Both = (refl, omega arith)

steps_back : (ss : List Step) → AllByRecursion GoodStep ss → steps_of (steps_words ss) ≡ Some ss
unfolding steps_of
steps_back [] g = refl
steps_back (read n ∷ ss) g =
    steps-two (codes "read") (decimal n) (steps_words ss) refl ∙ ap₂ ahead (ap (counted_of (codes "read")) (short_back n g.0)) (steps_back ss g.1)
steps_back (write bs ∷ ss) g =
    steps-two (codes "write") (quoted_of bs) (steps_words ss) refl ∙ ap₂ ahead (ap (option_map write) (bytes_back bs g.0.0 g.0.1)) (steps_back ss g.1)
steps_back (end n ∷ ss) g =
    steps-two (codes "end") (decimal n) (steps_words ss) refl ∙ ap₂ ahead (ap (counted_of (codes "end")) (short_back n g.0)) (steps_back ss g.1)
steps_back (go ∷ ss) g = steps-go (codes "go") (steps_words ss) refl ∙ ap (ahead (Some go)) (steps_back ss g.1)

steps-kept : (ss : List Step) → AllByRecursion GoodStep ss → AllByRecursion Kept (steps_words ss)
steps-kept [] g = tt
steps-kept (read n ∷ ss) g = ((refl, omega arith), (number-kept n (omega (arith, g.0)), steps-kept ss g.1))
steps-kept (write bs ∷ ss) g = ((refl, omega arith), (bytes-kept bs g.0.0, steps-kept ss g.1))
steps-kept (end n ∷ ss) g = ((refl, omega arith), (number-kept n (omega (arith, g.0)), steps-kept ss g.1))
steps-kept (go ∷ ss) g = ((refl, omega arith), steps-kept ss g.1)

-- the words of a command, each of which can stand in a line, and which say it
record Spelled (o : Order) : Type 0 where
  key : Keyword
  word : List ℕ
  others : List (List ℕ)
  line : line_for o ≡ unwords_of (word ∷ others)
  named-so : keyword_of word ≡ Some key
  first : Kept word
  rest : AllByRecursion Kept others
  says : command_of key others ≡ Some o

fits : (n : ℕ) → GoodWide n → n < 2 ^ 64
fits n g = omega arith

spelled : (o : Order) → Good o → Spelled o
unfolding keyword_of named
spelled (user u o) g = record { key = k.User; word = codes "user"; others = decimal u ∷ open_word o ∷ []; line = refl; named-so = refl; first = (refl, omega arith); rest = (number-kept u (omega arith), (open_kept o, tt)); says = ap₂ (both user) (user-back u g) (open-back o) }
spelled (may u n) g = record { key = k.May; word = codes "may"; others = decimal u ∷ decimal n ∷ []; line = refl; named-so = refl; first = (refl, omega arith); rest = (number-kept u (omega arith), (number-kept n (omega arith), tt)); says = ap₂ (both may) (user-back u g.0) (byte-back n g.1) }
spelled (program n ss) g = record { key = k.Program; word = codes "program"; others = decimal n ∷ steps_words ss; line = refl; named-so = refl; first = (refl, omega arith); rest = (number-kept n (omega arith), steps-kept ss g.1.0); says = ap₂ (both program) (byte-back n g.0) (ap limited (steps_back ss g.1.0) ∙ limit-in ss (λ e. omega (arith, g.1.1)) g.1.2) }
spelled (login u) g = record { key = k.Login; word = codes "login"; others = decimal u ∷ []; line = refl; named-so = refl; first = (refl, omega arith); rest = (number-kept u (omega arith), tt); says = ap (option_map login) (user-back u g) }
spelled (run t n) g = record { key = k.Run; word = codes "run"; others = decimal t ∷ decimal n ∷ []; line = refl; named-so = refl; first = (refl, omega arith); rest = (number-kept t (fits t g.0), (number-kept n (omega arith), tt)); says = ap₂ (both run) (wide_back t g.0) (byte-back n g.1) }
spelled (input t bs) g = record { key = k.Input; word = codes "type"; others = decimal t ∷ quoted_of bs ∷ []; line = refl; named-so = refl; first = (refl, omega arith); rest = (number-kept t (fits t g.0), (bytes-kept bs g.1.0, tt)); says = ap₂ (both input) (wide_back t g.0) (bytes_back bs g.1.0 g.1.1) }
spelled (close t) g = record { key = k.Close; word = codes "close"; others = decimal t ∷ []; line = refl; named-so = refl; first = (refl, omega arith); rest = (number-kept t (fits t g), tt); says = ap (option_map close) (wide_back t g) }
spelled (takes t n) g = record { key = k.Take; word = codes "take"; others = decimal t ∷ decimal n ∷ []; line = refl; named-so = refl; first = (refl, omega arith); rest = (number-kept t (fits t g.0), (number-kept n (fits n g.1), tt)); says = ap₂ (both takes) (wide_back t g.0) (wide_back n g.1) }
spelled (turn t) g = record { key = k.Turn; word = codes "turn"; others = decimal t ∷ []; line = refl; named-so = refl; first = (refl, omega arith); rest = (number-kept t (fits t g), tt); says = ap (option_map turn) (wide_back t g) }
spelled round g = record { key = k.Round; word = codes "round"; others = []; line = refl; named-so = refl; first = (refl, omega arith); rest = tt; says = refl }
spelled (arrive w) g = record { key = k.Arrive; word = codes "arrive"; others = way_word w ∷ []; line = refl; named-so = refl; first = (refl, omega arith); rest = (way-kept w, tt); says = ap (option_map arrive) (way_back w) }
spelled tick g = record { key = k.Tick; word = codes "tick"; others = []; line = refl; named-so = refl; first = (refl, omega arith); rest = tt; says = refl }
spelled (cuts e) g = record { key = k.Cut; word = codes "cut"; others = ends_word e ∷ []; line = refl; named-so = refl; first = (refl, omega arith); rest = (ends-kept e, tt); says = ap (option_map cuts) (ends-back e) }
spelled connect g = record { key = k.Connect; word = codes "connect"; others = []; line = refl; named-so = refl; first = (refl, omega arith); rest = tt; says = refl }

line-back : (o : Order) → Spelled o → line_of (line_for o) ≡ Some (Some o)
line-back o s =
    ap line_of s.line
    ∙ ap worded_of (words_back s.word s.others s.first s.rest)
    ∙ ap (λ key. called_of key s.others) s.named-so
    ∙ ap (option_map Some) s.says

first-line : (o : Order) (text : List ℕ) → Spelled o → lines_of ((line_for o ++ 10 ∷ []) ++ text) ≡ line_for o ∷ lines_of text
first-line o text s =
    ap lines_of (append_assoc (line_for o) (10 ∷ []) text)
    ∙ slice_split_at (λ b. eqb b 10) (line_for o) 10 text (subst OneLine (sym s.line) (unwords_line s.word s.others s.first s.rest)) refl

from_back : (n : ℕ) (os : List Order) → AllByRecursion Good os → from_line n (lines_of (written_of os)) ≡ Ok os
unfolding from_line words_of
from_back n [] g = refl
from_back n (o ∷ os) g =
    let s = spelled o g.0 in
    ap (from_line n) (first-line o (written_of os) s) ∙ ap₂ (then (n + 1)) (line-back o s) (from_back (n + 1) os g.1)

pub reads-back : ReadsBack
reads-back os g = from_back 0 os g
