-- What is proved of the definitions. The promises of specs/Promises.antt are proved in the files of this folder;
-- what they lean on is in seven rooms.

-- what bytes spell: reading is the inverse of writing
pub mod Reading
-- packs line by line: a line has no fault exactly if it may come next
pub mod Judging
-- sizes, substitutions, derivations, and how large numbers get
pub mod Soundness
-- queries, usable claims and bounds
pub mod Reserving
-- the sheet
pub mod Sheets
-- the program's input and reply
pub mod Replying
-- names, numbers, lines, fields and look-up, in words
pub mod TextTold
-- measure and the program, in words
pub mod MeasureTold
pub mod ReplyTold
-- what sizes are
pub mod SectionForm
-- names with their arities
pub mod ShareNothing
-- the demands, and what the words tell
pub mod DemandOne
pub mod DemandTwo
pub mod Words
pub mod DemandThree
pub mod RightCase
-- what reserve returns
pub mod ReserveTold
-- what the sheet tells
pub mod SheetKept
-- document 01's starred examples, and those of later requests; facts with derivations, and a fact without
pub mod Examples
pub mod Shipped
pub mod Joined
pub mod Climbed
pub mod Derived
-- the limits at their edges; the numbers of each case of the calls' answers
pub mod Limits
pub mod Answering
-- all that is promised
pub mod Promised
