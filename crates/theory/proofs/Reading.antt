-- What bytes spell, and that reading is the inverse of writing.

-- lists, values that may be missing
pub mod Every
pub mod Places
pub mod Presence
pub mod Kept
-- bytes, parts, numbers, names, columns
pub mod Bytes
pub mod Separators
pub mod Decimals
pub mod Digits
pub mod Spelling
pub mod Alignment
-- terms
pub mod Tokens
pub mod TermReading
pub mod TermLengths
-- the fields of a line
pub mod FieldValues
pub mod Letters
pub mod PlainFields
pub mod TermFields
