use Rattle.std.proofs.Common.{codes, ap, sym, arith, rules}
use Rattle.std.specs.Option.{ok_or}
use Rattle.std.proofs.lemmas.Slice.Eq.{text_from_reads}
use Rattle.token.specs.declared.fault.Fault.TheVariants.{Bad}
use Rattle.command.specs.Keywords.{keyword_of, named}
use Rattle.command.proofs.keyword.KeywordTryFromRefSliceU8.try_from.Goals as goal

pub returns-in-arrive : goal.returns-in-arrive
unfolding keyword_of named
returns-in-arrive c = ap (λ w. ok_or (keyword_of w) Bad) (sym (text_from_reads c.args.word.now (codes "arrive") (omega arith) (search rules)))

pub returns-in-program : goal.returns-in-program
unfolding keyword_of named
returns-in-program c = ap (λ w. ok_or (keyword_of w) Bad) (sym (text_from_reads c.args.word.now (codes "program") (omega arith) (search rules)))

pub returns-in-connect : goal.returns-in-connect
unfolding keyword_of named
returns-in-connect c = ap (λ w. ok_or (keyword_of w) Bad) (sym (text_from_reads c.args.word.now (codes "connect") (omega arith) (search rules)))
