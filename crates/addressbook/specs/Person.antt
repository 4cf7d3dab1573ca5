-- The enums and unions of `person` of addressbook.capnp.
use Rattle.std.specs.Prelude.{ℕ, ◌==◌, if◌then◌else◌, Result, Ok, []}
use Rattle.cp_tree.specs.Seen.{pointee_of}
use Rattle.cp_fields.specs.Numbers.{plain}
use Rattle.cp_fields.specs.Pointers.{held, text_field}
use Rattle.cp_fields.specs.declared.kind.WrongKind.{WrongKind}
use Rattle.cp_tree.specs.Node.{Node as Tree}
use Rattle.addressbook.specs.declared.person.PersonEmploymentMember.TheVariants as person_employment_members
use Rattle.addressbook.specs.declared.person.PersonEmploymentMember.{PersonEmploymentMember}
use Rattle.addressbook.specs.declared.person.PersonEmploymentWhich.TheVariants as person_employment_whichs
use Rattle.addressbook.specs.declared.person.PersonEmploymentWhich.{PersonEmploymentWhich}

-- the value of a number
abbrev pub person_employment_which_of : ℕ → PersonEmploymentWhich
person_employment_which_of n =
    if n == 0 then person_employment_whichs.Unemployed else
    (if n == 1 then person_employment_whichs.Employer else
    (if n == 2 then person_employment_whichs.School else
    (if n == 3 then person_employment_whichs.SelfEmployed else
    person_employment_whichs.Unknown n)))

-- the member of the union that is set, with what it holds
abbrev pub person_employment_member_of : Tree → PersonEmploymentWhich → Result PersonEmploymentMember WrongKind
person_employment_member_of t person_employment_whichs.Unemployed = Ok person_employment_members.Unemployed
person_employment_member_of t person_employment_whichs.Employer = held person_employment_members.Employer (text_field [] (pointee_of t 3))
person_employment_member_of t person_employment_whichs.School = held person_employment_members.School (text_field [] (pointee_of t 3))
person_employment_member_of t person_employment_whichs.SelfEmployed = Ok person_employment_members.SelfEmployed
person_employment_member_of t (person_employment_whichs.Unknown n) = Ok (person_employment_members.Unknown n)

abbrev pub person_employment_member : Tree → Result PersonEmploymentMember WrongKind
person_employment_member t = person_employment_member_of t (person_employment_which_of (plain t 16 2))
