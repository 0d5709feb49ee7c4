use Rattle.rhai_flat.proofs.SameForms.{forms_told}
use Rattle.rhai_flat.proofs.laws.rows_tell_forms.Goals as goal

pub returns : goal.returns
returns c = forms_told
