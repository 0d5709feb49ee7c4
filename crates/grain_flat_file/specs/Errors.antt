-- Why bytes are no file, as a record.
use Rattle.std.specs.Prelude.{ℕ, Option, Some, None}
use Rattle.grain_format.specs.declared.error.FieldFault.{FieldFault}
use Rattle.grain_format.specs.declared.error.FieldFault.TheVariants as faults
use Rattle.grain_format.specs.declared.parts.Part.{Part}
use Rattle.grain_format.specs.declared.parts.Part.TheVariants as part
use Rattle.grain_file.specs.declared.file.ReadError.{ReadError}
use Rattle.grain_file.specs.declared.file.ReadError.TheVariants as errors
use Rattle.grain_flat_file.specs.declared.causes.TheConstants as causes
use Rattle.grain_flat_file.specs.declared.parts.TheConstants as parts
use Rattle.grain_flat_file.specs.declared.records.CReadError.{CReadError}

abbrev pub cause_of : FieldFault → ℕ
cause_of faults.Magic = causes.MAGIC
cause_of faults.Version = causes.VERSION
cause_of faults.Kind = causes.KIND
cause_of faults.Truncated = causes.TRUNCATED
cause_of faults.TooWide = causes.TOO_WIDE
cause_of faults.NotShortest = causes.NOT_SHORTEST
cause_of faults.NotText = causes.NOT_TEXT
cause_of faults.NotCharacter = causes.NOT_CHARACTER
cause_of faults.UnknownTag = causes.UNKNOWN_TAG
cause_of faults.KeyOrder = causes.KEY_ORDER
cause_of faults.TooDeep = causes.TOO_DEEP
cause_of faults.NamesTooLong = causes.NAMES_TOO_LONG
cause_of faults.CaseOrder = causes.CASE_ORDER
cause_of faults.NoConstant = causes.NO_CONSTANT
cause_of faults.TooManyCases = causes.TOO_MANY_CASES
cause_of faults.SameCase = causes.SAME_CASE
cause_of faults.NoLine = causes.NO_LINE
cause_of faults.Trailing = causes.TRAILING

abbrev pub part_number : Part → ℕ
part_number part.Header = parts.HEADER
part_number part.Capabilities = parts.CAPABILITIES
part_number part.Id = parts.ID
part_number part.Code = parts.CODE
part_number part.MainChunk = parts.MAIN_CHUNK
part_number part.Functions = parts.FUNCTIONS
part_number (part.Function index) = parts.FUNCTION
part_number part.Names = parts.NAMES
part_number (part.Name index) = parts.NAME
part_number part.Constants = parts.CONSTANTS
part_number (part.Constant index) = parts.CONSTANT
part_number part.Operators = parts.OPERATORS
part_number (part.Operator index) = parts.OPERATOR
part_number part.OpAssignments = parts.OP_ASSIGNMENTS
part_number (part.OpAssignment index) = parts.OP_ASSIGNMENT
part_number part.Chains = parts.CHAINS
part_number (part.Chain index) = parts.CHAIN
part_number part.Switches = parts.SWITCHES
part_number (part.Switch index) = parts.SWITCH
part_number part.SourceName = parts.SOURCE_NAME
part_number part.Positions = parts.POSITIONS
part_number (part.Position index) = parts.POSITION
part_number part.AddressTable = parts.ADDRESS_TABLE
part_number part.ChainStream = parts.CHAIN_STREAM
part_number part.Rest = parts.REST

-- the index of an item, else 0
abbrev pub index_in : Part → ℕ
index_in part.Header = 0
index_in part.Capabilities = 0
index_in part.Id = 0
index_in part.Code = 0
index_in part.MainChunk = 0
index_in part.Functions = 0
index_in (part.Function index) = index
index_in part.Names = 0
index_in (part.Name index) = index
index_in part.Constants = 0
index_in (part.Constant index) = index
index_in part.Operators = 0
index_in (part.Operator index) = index
index_in part.OpAssignments = 0
index_in (part.OpAssignment index) = index
index_in part.Chains = 0
index_in (part.Chain index) = index
index_in part.Switches = 0
index_in (part.Switch index) = index
index_in part.SourceName = 0
index_in part.Positions = 0
index_in (part.Position index) = index
index_in part.AddressTable = 0
index_in part.ChainStream = 0
index_in part.Rest = 0

-- of a growth that was refused there is no record
abbrev pub read_error_record : ReadError → Option CReadError
read_error_record errors.OutOfMemory = None
read_error_record (errors.DepthLimit depth) = None
read_error_record (errors.TooLarge size limit) = Some (record { cause = causes.TOO_LARGE; part = parts.HEADER; index = 0; at = size; limit = limit })
read_error_record (errors.Malformed at place fault) = Some (record { cause = cause_of fault; part = part_number place; index = index_in place; at = at; limit = 0 })
