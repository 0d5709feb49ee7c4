-- What of a function pointer is kept: its name, and the values that are bound.
use Rattle.std.proofs.Common.{◌≡◌}
use Rattle.std.specs.Prelude.{string_bytes}
use Rattle.grain_base.specs.declared.value.FnPtr.{FnPtr, fold_out-FnPtr}
use Rattle.grain_format.specs.Form.{Form, fn_ptr, forms, forms_of, form_step, pointer_form_step, pointer_form}

pub pointer_form_is : (p : FnPtr) → pointer_form p ≡ fn_ptr (string_bytes p.name) (forms_of (forms p.curry.items))
pointer_form_is p = fold_out-FnPtr Form Form form_step pointer_form_step p
