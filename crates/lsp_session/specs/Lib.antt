pub mod NotesSent
pub mod SessionOutput
