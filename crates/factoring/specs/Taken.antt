-- What a step that is being taken makes: the step, and the form that it leaves.
use Rattle.factoring.specs.declared.taking.Taking.{Taking}
use Rattle.factoring.specs.Forms.{Form}
use Rattle.factoring.specs.Steps.{Step, step_of, next_form}
use Rattle.factoring.specs.Stored.{form_at}

-- the form that the step is taken off
abbrev pub form_taken : Taking → Form
form_taken t = form_at t.view.form.now

-- the step
abbrev pub step_taken : Taking → Step
step_taken t = step_of (form_taken t) t.cut.axis

-- what it leaves
abbrev pub form_left : Taking → Form
form_left t = next_form (form_taken t) t.cut.axis
