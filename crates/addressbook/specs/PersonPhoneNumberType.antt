-- The enums and unions of `person_phone_number_type` of addressbook.capnp.
use Rattle.std.specs.Prelude.{ℕ, ◌==◌, if◌then◌else◌}
use Rattle.addressbook.specs.declared.person_phone_number_type.PersonPhoneNumberType.TheVariants as person_phone_number_types
use Rattle.addressbook.specs.declared.person_phone_number_type.PersonPhoneNumberType.{PersonPhoneNumberType}

-- the value of a number
abbrev pub person_phone_number_type_of : ℕ → PersonPhoneNumberType
person_phone_number_type_of n =
    if n == 0 then person_phone_number_types.Mobile else
    (if n == 1 then person_phone_number_types.Home else
    (if n == 2 then person_phone_number_types.Work else
    person_phone_number_types.Unknown n))

abbrev pub person_phone_number_type_number : PersonPhoneNumberType → ℕ
person_phone_number_type_number person_phone_number_types.Mobile = 0
person_phone_number_type_number person_phone_number_types.Home = 1
person_phone_number_type_number person_phone_number_types.Work = 2
person_phone_number_type_number (person_phone_number_types.Unknown n) = n
