-- The kinds of step that the code tells apart, and their numbers.
use Rattle.std.specs.Prelude.{ℕ, Result, MatchResult, ◌≡◌, ◌<◌}
use Rattle.event.specs.declared.NoStep.{NoStep}
use Rattle.event.specs.declared.Step.{Step}
use Rattle.event.specs.declared.Step.TheVariants.{Issue, Forward, Module, Return, Collect}

-- the "what" of its events, in the order of the document: "issue", "forward", "module", "return", "collect"
abbrev pub number_of_step : Step → ℕ
number_of_step Issue = 0
number_of_step Forward = 1
number_of_step Module = 2
number_of_step Return = 3
number_of_step Collect = 4

-- what a number tells: the kind that has it, or that it is past the last
abbrev pub StepTold : ℕ → Result Step NoStep → Type 0
StepTold n r = MatchResult r (λ step. number_of_step step ≡ n) (λ _. 4 < n)
