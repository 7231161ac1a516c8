-- What a field that was not taken is of a message.
use Rattle.field_bytes.specs.declared.field_error.FieldError.{FieldError}
use Rattle.field_bytes.specs.declared.field_error.FieldError.TheVariants as field
use Rattle.ecp_messages.specs.declared.message_error.MessageError.{MessageError}
use Rattle.ecp_messages.specs.declared.message_error.MessageError.TheVariants as message

-- the field is bad, or memory ran out
abbrev pub message_error_of : FieldError → MessageError
message_error_of field.NoField = message.BadField
message_error_of (field.Memory error) = message.Memory error
