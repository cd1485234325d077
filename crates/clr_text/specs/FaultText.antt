-- How the fault of a text is written.
use Rattle.std.specs.Prelude.{ℕ, List, Option, None, Some, codes}
use Rattle.serde_json.specs.Data.{Data, member, no_members, object, string}
use Rattle.serde_json.specs.Written.{compact_text}
use Rattle.clr_text.specs.Json.{member_if}
use Rattle.clr_text.specs.Keys.{key_text}
use Rattle.clr_text.specs.declared.fault.TextFault.{TextFault}
use Rattle.clr_text.specs.declared.fault.TextFault.TheVariants.{BadValue, MissingKey, NoMemory}
use Rattle.clr_text.specs.declared.fault.TextFault.TheVariants.{NotJson, NotObject, UnknownCommand}
use Rattle.clr_text.specs.declared.fault.TextFault.TheVariants.{UnknownKey}

abbrev pub fault_name : TextFault → List ℕ
fault_name NotJson = codes "NotJson"
fault_name NotObject = codes "NotObject"
fault_name (MissingKey key) = codes "MissingKey"
fault_name UnknownKey = codes "UnknownKey"
fault_name (BadValue key) = codes "BadValue"
fault_name UnknownCommand = codes "UnknownCommand"
fault_name NoMemory = codes "NoMemory"

-- the key that a fault names, if it names one
abbrev pub key_of : TextFault → Option Data
key_of (MissingKey key) = Some (string (key_text key))
key_of (BadValue key) = Some (string (key_text key))
key_of _ = None

abbrev pub fault_data : TextFault → Data
fault_data fault = object
    (member (codes "fault") (string (fault_name fault))
    (member_if (codes "key") (key_of fault) no_members))

abbrev pub fault_text : TextFault → List ℕ
fault_text fault = compact_text (fault_data fault)
