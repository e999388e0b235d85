-- The struct that each case of a Rattle answer becomes: the numbers of docs/RULES.md and the answer's values, and 0 in a field that does not apply.
use Rattle.std.specs.Prelude.{ℕ, pos, Result, Ok, Err}
use Rattle.image.specs.Refusal.{number_of}
use Rattle.image.specs.declared.header.Image.{Image}
use Rattle.image.specs.declared.refusal.Refusal.{Refusal}
use Rattle.timing.specs.declared.timing_call.Answer.{Answer}
use Rattle.timing.specs.declared.timing_call.Answer.TheVariants as timing
use Rattle.timing.specs.declared.trail.Path.{Path}
use Rattle.interface.specs.declared.check_answer.CheckAnswer.{CheckAnswer}
use Rattle.interface.specs.declared.timing_answer.TimingAnswer.{TimingAnswer}
use Rattle.interface.specs.declared.path_answer.PathAnswer.{PathAnswer}
use Rattle.interface.specs.declared.text_answer.TextAnswer.{TextAnswer}

abbrev pub check_answer : Result Image Refusal → CheckAnswer
check_answer (Ok image) = record {
  refusal = 0;
  «record» = 0;
  cycle = image.cycle;
  phases = image.phases;
  synchronizers = image.synchronizers;
  arcs = image.arcs;
}
check_answer (Err why) = record { refusal = number_of why.rule; «record» = why.«record»; cycle = 0; phases = 0; synchronizers = 0; arcs = 0 }

abbrev pub timing_answer : Result Answer Refusal → TimingAnswer
timing_answer (Err why) = record {
  gain = pos 0;
  refusal = number_of why.rule;
  «record» = why.«record»;
  loop_arcs = 0;
  missed_setups = 0;
  missed_holds = 0;
}
timing_answer (Ok (timing.Growing count gain)) = record {
  gain = gain;
  refusal = 0;
  «record» = 0;
  loop_arcs = count;
  missed_setups = 0;
  missed_holds = 0;
}
timing_answer (Ok (timing.Timed setups holds)) = record {
  gain = pos 0;
  refusal = 0;
  «record» = 0;
  loop_arcs = 0;
  missed_setups = setups;
  missed_holds = holds;
}

abbrev pub path_answer : Result Path Refusal → PathAnswer
path_answer (Err why) = record { refusal = number_of why.rule; «record» = why.«record»; launch = 0; arcs = 0 }
path_answer (Ok path) = record { refusal = 0; «record» = 0; launch = path.launch; arcs = path.count }

abbrev pub text_answer : Result ℕ Refusal → TextAnswer
text_answer (Ok bytes) = record { refusal = 0; «record» = 0; image_bytes = bytes }
text_answer (Err why) = record { refusal = number_of why.rule; «record» = why.«record»; image_bytes = 0 }
