-- Which error a field that was not taken makes.
use Rattle.std.proofs.Common.{◌≡◌, ◌≢◌, refl}
use Rattle.field_bytes.specs.declared.field_error.FieldError.{FieldError}
use Rattle.field_bytes.specs.declared.field_error.FieldError.TheVariants as field
use Rattle.ecp_messages.specs.declared.message_error.MessageError.TheVariants as message
use Rattle.ecp_messages.specs.Errors.{message_error_of}

-- only a missing field is a bad one
pub no_field : (error : FieldError) → message_error_of error ≡ message.BadField → error ≡ field.NoField
no_field field.NoField e = refl
no_field (field.Memory error) e = absurd cc

pub no_bad_kind : (error : FieldError) → message_error_of error ≢ message.BadKind
no_bad_kind field.NoField e = absurd cc
no_bad_kind (field.Memory error) e = absurd cc

pub no_left_over : (error : FieldError) → message_error_of error ≢ message.LeftOver
no_left_over field.NoField e = absurd cc
no_left_over (field.Memory error) e = absurd cc

-- what shows which error was made
pub ruleset errors_made = (no_field, no_bad_kind, no_left_over)
