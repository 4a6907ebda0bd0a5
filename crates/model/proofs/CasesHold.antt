-- The worked cases, each computed. Assumes nothing.
use Rattle.std.proofs.Common.{◌≡◌, true, [], refl}
use Rattle.std.proofs.lemmas.Bool.{and_from}
use Rattle.model.specs.Files.{same, is_named, keep, up_from, without}
use Rattle.model.specs.Keyed.{find, change, each, gather, above, numbers, count, is_in, every}
use Rattle.model.specs.Messages.{parts}
use Rattle.model.specs.Client.{inputs, labelled}
use Rattle.model.specs.Server.{outputs, returned}
use Rattle.model.specs.Put.{number, unused, play}
use Rattle.model.specs.World.{after}
use Rattle.model.specs.Cases.{case_a, case_b, case_c, case_d, case_e, case_f, case_g, case_h, case_i, all_hold, times, bytes_from, sum, CasesHold}

case-a : all_hold [] case_a ≡ true
unfolding same is_named keep up_from without find change each gather above numbers count is_in every parts inputs labelled outputs returned number unused play after all_hold times bytes_from sum
case-a = refl

case-b : all_hold [] case_b ≡ true
unfolding same is_named keep up_from without find change each gather above numbers count is_in every parts inputs labelled outputs returned number unused play after all_hold times bytes_from sum
case-b = refl

case-c : all_hold [] case_c ≡ true
unfolding same is_named keep up_from without find change each gather above numbers count is_in every parts inputs labelled outputs returned number unused play after all_hold times bytes_from sum
case-c = refl

case-d : all_hold [] case_d ≡ true
unfolding same is_named keep up_from without find change each gather above numbers count is_in every parts inputs labelled outputs returned number unused play after all_hold times bytes_from sum
case-d = refl

case-e : all_hold [] case_e ≡ true
unfolding same is_named keep up_from without find change each gather above numbers count is_in every parts inputs labelled outputs returned number unused play after all_hold times bytes_from sum
case-e = refl

case-f : all_hold [] case_f ≡ true
unfolding same is_named keep up_from without find change each gather above numbers count is_in every parts inputs labelled outputs returned number unused play after all_hold times bytes_from sum
case-f = refl

case-g : all_hold [] case_g ≡ true
unfolding same is_named keep up_from without find change each gather above numbers count is_in every parts inputs labelled outputs returned number unused play after all_hold times bytes_from sum
case-g = refl

case-h : all_hold [] case_h ≡ true
unfolding same is_named keep up_from without find change each gather above numbers count is_in every parts inputs labelled outputs returned number unused play after all_hold times bytes_from sum
case-h = refl

case-i : all_hold [] case_i ≡ true
unfolding same is_named keep up_from without find change each gather above numbers count is_in every parts inputs labelled outputs returned number unused play after all_hold times bytes_from sum
case-i = refl

-- joined, none of them computed again
pub cases-hold : CasesHold
unfolding every
cases-hold =
    and_from (all_hold [] case_a) _ case-a (and_from (all_hold [] case_b) _ case-b (and_from (all_hold [] case_c) _ case-c (and_from (all_hold [] case_d) _ case-d
    (and_from (all_hold [] case_e) _ case-e (and_from (all_hold [] case_f) _ case-f (and_from (all_hold [] case_g) _ case-g (and_from (all_hold [] case_h) _ case-h (and_from (all_hold [] case_i) _ case-i refl))))))))
