-- What stands between two quotes.
use Rattle.std.specs.Prelude.{ℕ, ◌+◌, ◌-◌, ◌*◌, ◌<◌, cond, ◌&&◌, ◌||◌, List, [], ◌∷◌, ◌++◌, Some, None, Option, ◌==◌, nat_le}
use Rattle.std.specs.Option.{option_map, option_to_list}
use Rattle.token.specs.declared.quote.Quote.{Quote}
use Rattle.token.specs.declared.quote.Quote.TheVariants.{Body, Escape, High, Low, Closed}

-- the number of a digit in base 16, of either case
abbrev pub hex_of : ℕ → Option ℕ
hex_of b = cond (nat_le 48 b && nat_le b 57) (Some (b - 48)) (cond (nat_le 97 b && nat_le b 102) (Some (b - 97 + 10)) (cond (nat_le 65 b && nat_le b 70) (Some (b - 65 + 10)) None))

abbrev pub Small : Quote → Type 0
Small Body = Unit {0}
Small Escape = Unit {0}
Small High = Unit {0}
Small (Low h) = h < 16
Small Closed = Unit {0}

-- the state after a byte, and the byte that it tells
abbrev pub step_of : Quote → ℕ → Option (Quote × Option ℕ)
step_of Body b = cond (b == 34) (Some (Closed, None)) (cond (b == 92) (Some (Escape, None)) (cond (nat_le 32 b && nat_le b 126) (Some (Body, Some b)) None))
step_of Escape b = cond (b == 120) (Some (High, None)) (cond (b == 34 || b == 92) (Some (Body, Some b)) None)
step_of High b = option_map (λ h. (Low h, None)) (hex_of b)
step_of (Low h) b = option_map (λ l. (Body, Some (h * 16 + l))) (hex_of b)
step_of Closed b = None

abbrev pub told : Option (Quote × Option ℕ) → (Quote → Option (List ℕ)) → Option (List ℕ)
told None rest = None
told (Some p) rest = option_map (λ bs. option_to_list p.1 ++ bs) (rest p.0)

abbrev pub finished : Quote → Option (List ℕ)
finished Body = None
finished Escape = None
finished High = None
finished (Low h) = None
finished Closed = Some []

-- the bytes that are told from a state on, by a text that ends with the closing quote
unfoldable pub unquote_of : Quote → List ℕ → Option (List ℕ)
unquote_of q [] = finished q
unquote_of q (b ∷ bs) = told (step_of q b) (λ p. unquote_of p bs)
