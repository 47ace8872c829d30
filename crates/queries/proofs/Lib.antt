-- What an `Option` was that is handed on or refused.
pub mod Given
-- A query's fields, one by one: a size, the asked argument, the name.
pub mod SizeFields
pub mod AskedField
pub mod NamedField
-- The loop over the size fields.
pub mod SizeLoop
-- The tests of a query, one after another.
pub mod QueryTests
-- What `open_query` answers, by its ways out.
pub mod QueryFields
pub mod QueryOpening
