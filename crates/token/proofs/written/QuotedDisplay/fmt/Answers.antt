use Rattle.std.proofs.Common.{◌≡◌, ℕ, List, [], ◌∷◌, ◌++◌, length, sym, ap, ◌∙◌, append_assoc, append-nil, rules}
use Rattle.std.proofs.Output.{has_written_append, has_written_of_eq}
use Rattle.std.proofs.lemmas.List.{nil_from_length}
use Rattle.std.proofs.lemmas.Grind.{flat_map-append}
use Rattle.std.specs.Fmt.{HasWritten}
use Rattle.token.specs.Written.{escape_of, escapes_of}
use Rattle.token.proofs.written.QuotedDisplay.fmt.Goals as goal

-- all is done where nothing is left
drained : (done rest all : List ℕ) → length rest ≡ 0 → done ++ escapes_of rest ≡ all → done ≡ all
drained done rest all none whole = sym (append-nil done) ∙ ap (λ l. done ++ escapes_of l) (sym (nil_from_length rest none)) ∙ whole

pub loop-piece-preserved : goal.loop-piece-preserved
loop-piece-preserved g c =
    let s = c.in-Some.ensures.steps in (
      s.0 ∙ c.loop-piece.invariant.0,
      λ plain.
          let now = c.loop-piece.invariant.1 plain in
          let piece = c.in-Some.piece.now in (
            now.0 ++ escapes_of piece,
            has_written_append _ _ _ _ _ _ now.1 (has_written_of_eq _ _ _ _ _ c.escaped-len.ensures.value (search rules)),
            append_assoc now.0 (escapes_of piece) _ ∙ ap (λ l. now.0 ++ l) (sym (flat_map-append escape_of piece _)) ∙ ap (λ l. now.0 ++ escapes_of l) (sym s.1.0) ∙ now.2,
          ),
    )

pub returns-clause-writes : goal.returns-clause-writes
returns-clause-writes g c = λ plain ok.
    let first : HasWritten g.W.Write.write_str_gives c.args.f.now (34 ∷ []) c.write_str.new.self = search rules in
    let all = c.loop-piece.invariant.1 first.plain in
    let done = drained _ _ _ c.in-None.ensures.steps.1.0 all.2 in
    has_written_of_eq _ _ _ _ _ (ap (λ l. 34 ∷ (l ++ 34 ∷ [])) done)
    (has_written_append _ _ _ _ _ _ first (has_written_append _ _ _ _ _ _ all.1 (c.write_str-2.ensures.writes all.1.plain ok)))
