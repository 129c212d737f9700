-- What a caller of C sees of a run: the number that vr_run answers, and the rooms for count and why, which a refusal leaves. Assumes nothing.
use Rattle.std.specs.Prelude.{List, ℕ}
use Rattle.memory.specs.Runs.{Report, refused_run, did}

abbrev pub number_in : Report → ℕ
number_in (refused_run n) = n
number_in (did n w) = 0

abbrev pub count_in : Report → ℕ → ℕ
count_in (refused_run n) old = old
count_in (did n w) old = n

abbrev pub why_in : Report → ℕ → ℕ
why_in (refused_run n) old = old
why_in (did n w) old = w

abbrev pub told_run : ℕ → ℕ → Report × List ℕ × List ℕ → ℕ × List ℕ × List ℕ × ℕ × ℕ
told_run count why out = (number_in out.0, out.1, out.2, count_in out.0 count, why_in out.0 why)
