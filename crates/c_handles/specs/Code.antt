-- Faults as numbers.
use Rattle.std.specs.Prelude.{ℕ}
use Rattle.cp_words.specs.declared.place.Place.{Place}
use Rattle.cp_frame.specs.declared.fault.FrameFault.{FrameFault}
use Rattle.cp_frame.specs.declared.fault.FrameFault.TheVariants as frames
use Rattle.cp_reading.specs.declared.fault.TreeFault.{TreeFault}
use Rattle.cp_reading.specs.declared.fault.TreeFault.TheVariants as trees
use Rattle.cp_messages.specs.declared.fault.Field.{Field}
use Rattle.cp_messages.specs.declared.fault.Field.TheVariants as fields
use Rattle.cp_messages.specs.declared.fault.SchemaFault.{SchemaFault}
use Rattle.cp_messages.specs.declared.fault.SchemaFault.TheVariants as schemas
use Rattle.cp_tree.specs.declared.fault.WriteFault.{WriteFault}
use Rattle.cp_tree.specs.declared.fault.WriteFault.TheVariants as writes
use Rattle.cp_stream.specs.declared.fault.Refusal.{Refusal}
use Rattle.cp_stream.specs.declared.fault.Refusal.TheVariants as refusals
use Rattle.cp_canonical.specs.declared.fault.CanonicalFault.{CanonicalFault}
use Rattle.cp_canonical.specs.declared.fault.CanonicalFault.TheVariants as forms
use Rattle.cp_vat_machine.specs.declared.fault.VatFault.{VatFault}
use Rattle.cp_vat_machine.specs.declared.fault.VatFault.TheVariants as vats
use Rattle.c_handles.specs.declared.code.CallFault.{CallFault}
use Rattle.c_handles.specs.declared.code.CallFault.TheVariants as faults
use Rattle.c_handles.specs.declared.code.Spot.{Spot}

-- F1 to F6
abbrev pub frame_code : FrameFault → ℕ
frame_code frames.TooManySegments = 101
frame_code frames.FrameTooLarge = 102
frame_code frames.Truncated = 103
frame_code frames.RunPastFrame = 104
frame_code frames.Failed = 105
frame_code frames.OutOfMemory = 106

-- G1 to G10
abbrev pub tree_code : TreeFault → ℕ
tree_code (trees.NoRoot place) = 201
tree_code (trees.RootKind place) = 202
tree_code (trees.OutOfBounds place) = 203
tree_code (trees.NoSegment place) = 204
tree_code (trees.BadPad place) = 205
tree_code (trees.BadTag place) = 206
tree_code (trees.BadCapability place) = 207
tree_code (trees.NestingLimit place) = 208
tree_code (trees.TraversalLimit place) = 209
tree_code trees.OutOfMemory = 210

-- S1 to S3
abbrev pub schema_code : SchemaFault → ℕ
schema_code (schemas.Kind field) = 301
schema_code (schemas.Text field) = 302
schema_code schemas.OutOfMemory = 303

-- B1 to B4
abbrev pub write_code : WriteFault → ℕ
write_code writes.TooDeep = 401
write_code writes.TooCostly = 402
write_code writes.OutOfMemory = 403
write_code writes.TooManyWords = 404

-- V1 to V11
abbrev pub vat_code : VatFault → ℕ
vat_code vats.UnknownQuestion = 501
vat_code vats.UnknownPromise = 502
vat_code vats.AlreadyResolved = 503
vat_code vats.PromiseCycle = 504
vat_code vats.Unsettled = 505
vat_code vats.InUse = 506
vat_code vats.TooLarge = 507
vat_code vats.Full = 508
vat_code vats.Closed = 509
vat_code vats.OutOfMemory = 510
vat_code vats.UnknownImport = 511

abbrev pub refusal_code : Refusal → ℕ
refusal_code (refusals.Frame fault) = frame_code fault
refusal_code (refusals.Tree fault) = tree_code fault
refusal_code (refusals.Schema fault) = schema_code fault
refusal_code (refusals.Write fault) = write_code fault

-- C1 and C2, or the fault of the tree, or of what is written
abbrev pub canonical_code : CanonicalFault → ℕ
canonical_code (forms.Tree fault) = tree_code fault
canonical_code (forms.Write fault) = write_code fault
canonical_code (forms.Capability index) = 601
canonical_code (forms.Difference place) = 602

-- the number of a fault; 0 is none
abbrev pub code_of : CallFault → ℕ
code_of faults.Closed = 1
code_of faults.Limits = 2
code_of faults.NoFrame = 3
code_of faults.Argument = 4
code_of faults.NoContent = 5
code_of faults.Ended = 6
code_of faults.Forbidden = 7
code_of (faults.Refused refusal) = refusal_code refusal
code_of (faults.Vat fault) = vat_code fault
code_of (faults.NotCanonical fault) = canonical_code fault

-- no word and no field
abbrev pub nowhere : Spot
nowhere = record { segment = 0; word = 0; field = 0 }

abbrev pub at_place : Place → Spot
at_place place = record { segment = place.segment; word = place.word; field = 0 }

-- the fields of rpc.capnp, from 1 on
abbrev pub field_number : Field → ℕ
field_number fields.MessageAbort = 1
field_number fields.MessageCall = 2
field_number fields.MessageReturn = 3
field_number fields.MessageFinish = 4
field_number fields.MessageResolve = 5
field_number fields.MessageRelease = 6
field_number fields.MessageBootstrap = 7
field_number fields.MessageDisembargo = 8
field_number fields.CallTarget = 9
field_number fields.CallParams = 10
field_number fields.MessageTargetPromisedAnswer = 11
field_number fields.PromisedAnswerTransform = 12
field_number fields.PayloadCapTable = 13
field_number fields.CapDescriptorReceiverAnswer = 14
field_number fields.ReturnResults = 15
field_number fields.ReturnException = 16
field_number fields.ResolveCap = 17
field_number fields.ResolveException = 18
field_number fields.DisembargoTarget = 19
field_number fields.ExceptionReason = 20
field_number fields.ExceptionTrace = 21

abbrev pub in_field : Field → Spot
in_field field = record { segment = 0; word = 0; field = field_number field }

-- the word that is to blame
abbrev pub tree_spot : TreeFault → Spot
tree_spot (trees.NoRoot place) = at_place place
tree_spot (trees.RootKind place) = at_place place
tree_spot (trees.OutOfBounds place) = at_place place
tree_spot (trees.NoSegment place) = at_place place
tree_spot (trees.BadPad place) = at_place place
tree_spot (trees.BadTag place) = at_place place
tree_spot (trees.BadCapability place) = at_place place
tree_spot (trees.NestingLimit place) = at_place place
tree_spot (trees.TraversalLimit place) = at_place place
tree_spot trees.OutOfMemory = nowhere

-- the field that is to blame
abbrev pub schema_spot : SchemaFault → Spot
schema_spot (schemas.Kind field) = in_field field
schema_spot (schemas.Text field) = in_field field
schema_spot schemas.OutOfMemory = nowhere

-- the word or the capability that is to blame
abbrev pub canonical_spot : CanonicalFault → Spot
canonical_spot (forms.Tree fault) = tree_spot fault
canonical_spot (forms.Write fault) = nowhere
canonical_spot (forms.Capability index) = record { segment = 0; word = 0; field = index }
canonical_spot (forms.Difference place) = at_place place

-- what of a frame, or of a message, is to blame
abbrev pub spot_of : CallFault → Spot
spot_of (faults.Refused (refusals.Tree fault)) = tree_spot fault
spot_of (faults.Refused (refusals.Schema fault)) = schema_spot fault
spot_of (faults.NotCanonical fault) = canonical_spot fault
spot_of other = nowhere
