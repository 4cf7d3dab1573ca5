pub mod AddressBook
pub mod Person
pub mod PersonPhoneNumberType
